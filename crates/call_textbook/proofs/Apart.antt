-- Lists of gaps with no gap twice: sorted they are rising lists, and of any rising list they count no more than it has.
-- Main definition: `are_apart`. Main statements: `cuts_apart`, `in_rising`, `rising_length`, `rising_gaps`,
-- `counted_few`.
use mathlib.Core.Path.{◌≡◌, refl, ap, ◌∙◌}
use mathlib.Core.Bool.{Bool, true, false, ◌&&◌, ◌||◌, not}
use mathlib.Core.List.{List, [], ◌∷◌}
use Prim.Native.Nat.{ℕ, suc, ◌+◌, ◌≤◌, ◌<◌}
use native.Mathlib.Omega.{arith}
use lib.Dec.{eqb, ltb}
use lib.ListN.{length}
use borrow.Author.Tests.{ne_eqb}
use Rattle.laws.specs.Choice.{pick, is_in}
use Rattle.laws.specs.Bits.{one}
use Rattle.laws.proofs.Tests.{never, never_both, and_true, false_by}
use Rattle.laws.proofs.Members.{in_here, in_later}
use Rattle.paper_nests.specs.Nests.{Dep}
use Rattle.paper_placements.specs.Placements.{are_gaps_from}
use Rattle.paper_placements.specs.GapLists.{with_gap, without}
use Rattle.paper_placements.specs.Words.{kept}
use Rattle.paper_placements.proofs.GapLists.{in_with, rising_with, in_without, rising_without}
use Rattle.call_textbook.specs.Tries.{lacking, some_ends, cuts_on, rising}
use Rattle.call_textbook.proofs.Greedy.{counted, cuts_in_line}

-- no gap stands twice
abbrev pub are_apart : List ℕ → Bool
are_apart [] = true
are_apart (g ∷ gs) = not (is_in g gs) && are_apart gs

pub record Apart (g : ℕ) (gs : List ℕ) : Type 0 where
  pub once : is_in g gs ≡ false
  pub rest : are_apart gs ≡ true

pub apart : (g : ℕ) (gs : List ℕ) → are_apart (g ∷ gs) ≡ true → Apart g gs
apart g gs h = go (is_in g gs) refl (and_true (not (is_in g gs)) (are_apart gs) h)
  where
    go : (t : Bool) → is_in g gs ≡ t → (not t ≡ true) × (are_apart gs ≡ true) → Apart g gs
    go true e z = never z.0
    go false e z = record { once = e; rest = z.1 }

pub apart_by : (g : ℕ) (gs : List ℕ) → is_in g gs ≡ false → are_apart gs ≡ true → are_apart (g ∷ gs) ≡ true
apart_by g gs h k = rw (h, k)

-- greedy cuts on such a line
pub cuts_apart : (ps hs : List ℕ) (ds : List Dep) → are_apart hs ≡ true → are_apart (cuts_on ps hs ds) ≡ true
unfolding cuts_on
cuts_apart ps [] ds h = refl
cuts_apart ps (x ∷ xs) ds h =
    go (some_ends ps x xs ds) (apart x xs h) (λ es. cuts_apart ps xs es)
  where
    go
        : (t : Bool) → Apart x xs → ((es : List Dep) → are_apart xs ≡ true → are_apart (cuts_on ps xs es) ≡ true)
        → are_apart (kept t x (cuts_on ps xs (pick t (lacking ps x ds) ds))) ≡ true
    go true a rest =
        let es = lacking ps x ds in
        apart_by x (cuts_on ps xs es)
        (false_by (λ z. never_both (cuts_in_line ps xs es x z) a.once))
        (rest es a.rest)
    go false a rest = rest ds a.rest

-- ---- sorted

pub in_rising : (i : ℕ) (gs : List ℕ) → is_in i (rising gs) ≡ is_in i gs
in_rising i [] = refl
in_rising i (g ∷ gs) = in_with g i (rising gs) ∙ ap (λ (b : Bool). eqb i g || b) (in_rising i gs)

with_length : (g : ℕ) (gs : List ℕ) → length (with_gap g gs) ≡ suc (length gs)
with_length g [] = refl
with_length g (x ∷ xs) = go (ltb g x) (with_length g xs)
  where
    go
        : (t : Bool) → length (with_gap g xs) ≡ suc (length xs)
        → length (pick t (g ∷ (x ∷ xs)) (x ∷ with_gap g xs)) ≡ suc (suc (length xs))
    go true r = refl
    go false r = ap suc r

pub rising_length : (gs : List ℕ) → length (rising gs) ≡ length gs
rising_length [] = refl
rising_length (g ∷ gs) = with_length g (rising gs) ∙ ap suc (rising_length gs)

pub rising_gaps
    : (n : ℕ) (gs : List ℕ) → are_apart gs ≡ true → ((i : ℕ) → is_in i gs ≡ true → (0 < i) × (i < n))
    → are_gaps_from 0 n (rising gs) ≡ true
rising_gaps n [] h f = refl
rising_gaps n (g ∷ gs) h f =
    let a = apart g gs h in
    let z = f g (in_here g gs) in
    rising_with 0 n g (rising gs)
    (rising_gaps n gs a.rest (λ i k. f i (in_later i g gs k)))
    z.0
    z.1
    (in_rising g gs ∙ a.once)

-- ---- counted

without_length : (g : ℕ) (gs : List ℕ) → is_in g gs ≡ true → suc (length (without g gs)) ≡ length gs
without_length g [] h = never h
without_length g (x ∷ xs) h = go (eqb g x) h (without_length g xs)
  where
    go
        : (t : Bool) → (t || is_in g xs) ≡ true → (is_in g xs ≡ true → suc (length (without g xs)) ≡ length xs)
        → suc (length (pick t xs (x ∷ without g xs))) ≡ suc (length xs)
    go true k rest = refl
    go false k rest = ap suc (rest k)

module _ (ps : List ℕ) where
  -- a gap that the line lacks is not counted there
  counted_without
      : (last n g : ℕ) (gs hs : List ℕ) → are_gaps_from last n gs ≡ true → is_in g hs ≡ false
      → counted ps (λ i. is_in i (without g gs)) hs ≡ counted ps (λ i. is_in i gs) hs
  counted_without last n g gs [] r h = refl
  counted_without last n g gs (x ∷ xs) r h =
      let a : is_in g xs ≡ false = false_by (λ z. never_both (in_later g x xs z) h) in
      let b : (x ≡ g) → ⊥ = λ z. never_both (rw z (in_here g xs)) h in
      let c : is_in x (without g gs) ≡ is_in x gs = in_without last n g x gs r ∙ rw (ne_eqb x g b) in
      rw (c, counted_without last n g gs xs r a)

  pub counted_few
      : (last n : ℕ) (gs hs : List ℕ) → are_gaps_from last n gs ≡ true → are_apart hs ≡ true
      → counted ps (λ i. is_in i gs) hs ≤ length gs
  counted_few last n gs [] r h = omega arith
  counted_few last n gs (x ∷ xs) r h =
      go (is_in x gs) refl (apart x xs h) (λ es. counted_few last n es xs)
    where
      go
          : (t : Bool) → is_in x gs ≡ t → Apart x xs
          → ((es : List ℕ) → are_gaps_from last n es ≡ true → are_apart xs ≡ true
          → counted ps (λ i. is_in i es) xs ≤ length es)
          → one t + counted ps (λ i. is_in i gs) xs ≤ length gs
      go true e a rest =
          omega (
            arith,
            without_length x gs e,
            rest (without x gs) (rising_without last n x gs r) a.rest,
            counted_without last n x gs xs r a.once,
          )
      go false e a rest = omega (arith, rest gs r a.rest)
