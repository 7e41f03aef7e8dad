-- Rising lists of gaps: they are sets, and each is the list of some words.
-- Main statements: `rising_in`, `rising_equal`, `words_of`, `words_hold`.
use mathlib.Core.Path.{◌≡◌, refl, sym, ap, ◌∙◌}
use mathlib.Core.Bool.{Bool, true, false, ◌&&◌, ◌||◌}
use mathlib.Core.List.{List, [], ◌∷◌}
use mathlib.Core.Logic.{◌⊎◌, inl, inr, ⊎_elim}
use Prim.Native.Nat.{ℕ, ◌≤◌, ◌<◌}
use native.Mathlib.Omega.{arith}
use lib.Dec.{eqb, ltb}
use lib.ListN.{length, length-set}
use borrow.Author.Tests.{eqb-true, eq-eqb, ne_eqb, lt-ltb, ltb-true}
use Rattle.laws.specs.Choice.{is_in}
use Rattle.laws.proofs.Tests.{eq_or, or-true, and_true, false_by, never}
use Rattle.paper_placements.specs.Placements.{are_gaps_from}
use Rattle.paper_placements.specs.Words.{GAPS, holds}
use Rattle.paper_placements.proofs.Words.{holds_empty, holds_put, put_in}

-- the parts of a rising list
pub record Rises (last n g : ℕ) (gs : List ℕ) : Type 0 where
  pub above : last < g
  pub below : g < n
  pub rest : are_gaps_from g n gs ≡ true

pub rises : (last n g : ℕ) (gs : List ℕ) → are_gaps_from last n (g ∷ gs) ≡ true → Rises last n g gs
rises last n g gs h =
    let a = and_true (ltb last g) (ltb g n && are_gaps_from g n gs) h in
    let b = and_true (ltb g n) (are_gaps_from g n gs) a.1 in
    record { above = ltb-true last g a.0; below = ltb-true g n b.0; rest = b.1 }

-- what a rising list holds lies between its bounds
pub rising_in
    : (last n : ℕ) (gs : List ℕ) (i : ℕ)
    → are_gaps_from last n gs ≡ true
    → is_in i gs ≡ true
    → (last < i) × (i < n)
rising_in last n [] i h p = never p
rising_in last n (g ∷ gs) i h p = go (rises last n g gs h) (or-true (eqb i g) (is_in i gs) p) (rising_in g n gs i)
  where
    go
        : Rises last n g gs
        → (eqb i g ≡ true) ⊎ (is_in i gs ≡ true)
        → (are_gaps_from g n gs ≡ true → is_in i gs ≡ true → (g < i) × (i < n))
        → (last < i) × (i < n)
    go r (inl e) rest = let z : i ≡ g = eqb-true i g e in (omega (arith, r.above), omega (arith, r.below))
    go r (inr e) rest = let z = rest r.rest e in (omega (arith, r.above, z.0), z.1)

-- not before its first gap
pub rising_out : (last n : ℕ) (gs : List ℕ) (i : ℕ) → are_gaps_from last n gs ≡ true → i ≤ last → is_in i gs ≡ false
rising_out last n gs i h l = false_by (λ z. omega (arith, (rising_in last n gs i h z).0))

-- the first of a rising list is at most any other of it
first_least : (n u v : ℕ) (vs : List ℕ) → are_gaps_from v n vs ≡ true → is_in u (v ∷ vs) ≡ true → v ≤ u
first_least n u v vs h p =
    ⊎_elim
    (λ (z : eqb u v ≡ true). omega (arith, eqb-true u v z))
    (λ (z : is_in u vs ≡ true). omega (arith, (rising_in v n vs u h z).0))
    (or-true (eqb u v) (is_in u vs) p)

-- rising lists with the same gaps are the same
pub rising_equal
    : (last n : ℕ) (us vs : List ℕ)
    → are_gaps_from last n us ≡ true
    → are_gaps_from last n vs ≡ true
    → ((i : ℕ) → is_in i us ≡ is_in i vs)
    → us ≡ vs
rising_equal last n [] [] p q h = refl
rising_equal last n [] (v ∷ vs) p q h = never (h v ∙ rw (eq-eqb v v refl))
rising_equal last n (u ∷ us) [] p q h = never (sym (h u) ∙ rw (eq-eqb u u refl))
rising_equal last n (u ∷ us) (v ∷ vs) p q h = go (rises last n u us p) (rises last n v vs q) (rising_equal u n us vs)
  where
    go
        : Rises last n u us
        → Rises last n v vs
        → (are_gaps_from u n us ≡ true → are_gaps_from u n vs ≡ true → ((i : ℕ) → is_in i us ≡ is_in i vs) → us ≡ vs)
        → u ∷ us ≡ v ∷ vs
    go a b rest = cc (e, rest a.rest b_rest tails)
      where
        e : u ≡ v
        e =
            omega (
              arith,
              first_least n u v vs b.rest (sym (h u) ∙ rw (eq-eqb u u refl)),
              first_least n v u us a.rest (h v ∙ rw (eq-eqb v v refl)),
            )

        b_rest : are_gaps_from u n vs ≡ true
        b_rest = rw e b.rest

        tails : (i : ℕ) → is_in i us ≡ is_in i vs
        tails i =
            ⊎_elim
            (λ (z : i ≡ u).
            rising_out u n us i a.rest (omega arith) ∙ sym (rising_out u n vs i b_rest (omega arith)))
            (λ (z : i ≡ u → ⊥).
            let y : is_in i (u ∷ us) ≡ is_in i us = rw (ne_eqb i u z) in
            let x : is_in i (v ∷ vs) ≡ is_in i vs = rw (ne_eqb i v (λ w. z (w ∙ sym e))) in
            sym y ∙ h i ∙ x)
            (eq_or i u)

-- the words of a list of gaps
unfoldable pub words_of : List ℕ → List ℕ
words_of [] = 0 ∷ (0 ∷ (0 ∷ (0 ∷ [])))
words_of (g ∷ gs) = put_in (words_of gs) g

pub words_length : (gs : List ℕ) → length (words_of gs) ≡ 4
unfolding words_of put_in
words_length [] = refl
words_length (g ∷ gs) = simp length-set (words_length gs)

pub words_hold : (last : ℕ) (gs : List ℕ) → are_gaps_from last GAPS gs ≡ true → (i : ℕ) → holds (words_of gs) i ≡ is_in i gs
unfolding words_of
words_hold last [] h i = holds_empty i
words_hold last (g ∷ gs) h i = go (rises last GAPS g gs h) (words_hold g gs)
  where
    go
        : Rises last GAPS g gs
        → (are_gaps_from g GAPS gs ≡ true → (i : ℕ) → holds (words_of gs) i ≡ is_in i gs)
        → holds (put_in (words_of gs) g) i ≡ (eqb i g || is_in i gs)
    go r rest =
        holds_put (words_of gs) g i (omega (arith, words_length gs, r.below)) ∙
        ap (λ (b : Bool). eqb i g || b) (rest r.rest i)

-- a bound may be raised
pub rising_wider : (last m n : ℕ) (gs : List ℕ) → m ≤ n → are_gaps_from last m gs ≡ true → are_gaps_from last n gs ≡ true
rising_wider last m n [] l h = refl
rising_wider last m n (g ∷ gs) l h = go (rises last m g gs h) (rising_wider g m n gs l)
  where
    go
        : Rises last m g gs
        → (are_gaps_from g m gs ≡ true → are_gaps_from g n gs ≡ true)
        → are_gaps_from last n (g ∷ gs) ≡ true
    go r rest = rw (lt-ltb last g r.above, lt-ltb g n (omega (arith, r.below))) (rest r.rest)
