-- The tables of the ring laid out twice: the last unbarred places, filled from the first place on, and the latest
-- starts, entered one dependence after the other.
-- Main definitions: `Freed`, `Collecting`. Main statements: `held_barred`, `unheld_free`; `free_start`, `free_barred`,
-- `free_open`, `free_done`; `collect_start`, `next_placed`, `collect_on`, `collect_done`.
use mathlib.Core.Path.{◌≡◌, refl, sym, ap, ◌∙◌, subst}
use mathlib.Core.Bool.{Bool, true, false, not}
use mathlib.Core.List.{List, [], ◌∷◌}
use mathlib.Core.Logic.{inl, inr}
use Prim.Native.Nat.{ℕ, zero, suc, ◌+◌, ◌-◌, ◌≤◌, ◌<◌, max}
use native.Mathlib.Omega.{arith}
use lib.ListN.{length, get_or, set, drop, length-set}
use Rattle.laws.specs.Choice.{pick}
use Rattle.laws.specs.Entries.{at}
use Rattle.laws.proofs.Copies.{copies, copies_at}
use Rattle.laws.proofs.Stores.{stored}
use Rattle.paper_nests.specs.declared.Dependence as DE
use Rattle.paper_nests.specs.Nests.{Dep}
use Rattle.paper_nests.specs.Stored.{dep_in, deps_in}
use Rattle.paper_nests.proofs.Stored.{deps_in_at}
use Rattle.paper_placements.specs.Words.{GAPS, holds, gaps_in}
use Rattle.paper_placements.proofs.Words.{in_gaps}
use Rattle.paper_placements.specs.Placements.{is_free}
use Rattle.call_textbook.specs.Places.{PLACES, gap_at, last_place, last_free, latest_of}
use Rattle.call_textbook.specs.Steps.{Placed, AllPlaced, FreeSays, LatestSays, EnterSays}

-- a gap that the words hold is barred, any other is not
module _ (ws : List ℕ) (g : ℕ) (held : Bool) (fits : g < GAPS) (is_held_lem : held ≡ holds ws g) where
  free_is : (t : Bool) → held ≡ t → is_free (gaps_in ws) g ≡ not t
  free_is t h = ap not (in_gaps ws g fits ∙ sym is_held_lem ∙ h)

  pub held_barred : held ≡ true → is_free (gaps_in ws) g ≡ false
  held_barred h = free_is true h

  pub unheld_free : held ≡ false → is_free (gaps_in ws) g ≡ true
  unheld_free h = free_is false h

-- ---- the last unbarred places

-- the entries of the places below p are there
pub record Freed (bs : List ℕ) (m : ℕ) (free : List ℕ) (p : ℕ) : Type 0 where
  pub first : 0 < p
  pub long : length free ≡ PLACES
  pub known : (q : ℕ) → q < p → at free q ≡ last_free bs m q

pub free_start : (bs : List ℕ) (m : ℕ) → Freed bs m (copies PLACES 0) 1
unfolding copies last_free
free_start bs m =
    record {
      first = omega arith;
      long = refl;
      known = λ q h. let z : q ≡ 0 = omega arith in rw z;
    }

-- a place with a barred gap has what the place before has, any other is an unbarred place itself
last_free_next
    : (bs : List ℕ) (m p q : ℕ) (f : Bool) → p ≡ suc q → is_free bs (gap_at m p) ≡ f
    → last_free bs m p ≡ pick f p (last_free bs m q)
unfolding last_free
last_free_next bs m p q f e b = rw (e, rw e at b)

module _ {bs : List ℕ} {m : ℕ} {free : List ℕ} {p : ℕ} (t : Freed bs m free p) where
  free_next : (v : ℕ) → p < PLACES → v ≡ last_free bs m p → Freed bs m (set free p v) (p + 1)
  free_next v l e =
      record {
        first = omega arith;
        long = length-set free p v ∙ t.long;
        known = λ q h.
            stored free p v q (last_free bs m q) (omega (arith, t.long)) (λ z. e ∙ ap (last_free bs m) (sym z))
            (λ z. t.known q (omega (arith, z)));
      }

  free_at : (f : Bool) → is_free bs (gap_at m p) ≡ f → pick f p (at free (p - 1)) ≡ last_free bs m p
  free_at f b =
      let before = t.known (p - 1) (omega (arith, t.first)) in
      rw before (sym (last_free_next bs m p (p - 1) f (omega (arith, t.first)) b))

  pub free_barred : p < PLACES → is_free bs (gap_at m p) ≡ false → Freed bs m (set free p (at free (p - 1))) (p + 1)
  free_barred l b = free_next (at free (p - 1)) l (free_at false b)

  pub free_open : p < PLACES → is_free bs (gap_at m p) ≡ true → Freed bs m (set free p p) (p + 1)
  free_open l b = free_next p l (free_at true b)

  pub free_done : m + m < p → FreeSays bs m free
  free_done h q l = t.known q (omega arith)

last_free_le : (bs : List ℕ) (m p : ℕ) → last_free bs m p ≤ p
unfolding last_free
last_free_le bs m zero = omega arith
last_free_le bs m (suc p) = go (is_free bs (gap_at m (suc p))) (last_free_le bs m p)
  where
    go : (t : Bool) → last_free bs m p ≤ p → pick t (suc p) (last_free bs m p) ≤ suc p
    go true h = omega arith
    go false h = omega arith

-- an entry is a place of the table
pub free_within : (bs : List ℕ) (m : ℕ) (free : List ℕ) → FreeSays bs m free → (p : ℕ) → p ≤ m + m → at free p ≤ m + m
free_within bs m free t p l = omega (arith, t p l, last_free_le bs m p)

-- ---- all dependences

-- what a list of dependences has past its end
abbrev pub no_dependence : DE.Dependence
no_dependence = record { kind = 0; d = 0; s = 0; t = 0 }

-- of the first n dependences of an array those below i are entered
pub record Collecting (free : List ℕ) (m n : ℕ) (es : List DE.Dependence) (i : ℕ) (xs : List ℕ) : Type 0 where
  pub long : length xs ≡ PLACES
  pub placed : AllPlaced m (drop i (deps_in n es))
  pub rest
      : (p : ℕ) → p ≤ m + m
      → max (at xs p) (latest_of (at free) m (drop i (deps_in n es)) p) ≡ latest_of (at free) m (deps_in n es) p

pub collect_start
    : (free : List ℕ) (m n : ℕ) (es : List DE.Dependence) → AllPlaced m (deps_in n es)
    → Collecting free m n es 0 (copies PLACES 0)
unfolding copies
collect_start free m n es a =
    record { long = refl; placed = a; rest = λ p l. omega (arith, copies_at {A = ℕ} PLACES 0 p) }

module _
    {free : List ℕ} {m n : ℕ} {es : List DE.Dependence} {i : ℕ} {xs : List ℕ}
    (c : Collecting free m n es i xs) (within : n ≤ length es) (h : i < n)
  where
    -- the next dependence stands in front of the rest
    next : drop i (deps_in n es) ≡ dep_in (get_or es i no_dependence) ∷ drop (suc i) (deps_in n es)
    next = deps_in_at n es i no_dependence h within

    rest_placed : AllPlaced m (dep_in (get_or es i no_dependence) ∷ drop (suc i) (deps_in n es))
    rest_placed = subst (AllPlaced m) next c.placed

    pub next_placed : Placed m (dep_in (get_or es i no_dependence))
    next_placed = rest_placed (dep_in (get_or es i no_dependence)) (inl refl)

    pub collect_on
        : (ys : List ℕ) → length ys ≡ length xs → EnterSays free m (dep_in (get_or es i no_dependence)) xs ys
        → Collecting free m n es (i + 1) ys
    collect_on ys same f =
        let j : i + 1 ≡ suc i = omega arith in
        record {
          long = same ∙ c.long;
          placed = rw j (λ e b. rest_placed e (inr b));
          rest = λ p l.
              let z = ap (λ (ds : List Dep). latest_of (at free) m ds p) next in
              rw j (omega (arith, z, f p l, c.rest p l));
        }

-- a table that has the last unbarred places serves as well as they
latest_same
    : (bs : List ℕ) (m : ℕ) (free : List ℕ) → FreeSays bs m free → (ds : List Dep) → AllPlaced m ds → (p : ℕ)
    → latest_of (at free) m ds p ≡ latest_of (last_free bs m) m ds p
latest_same bs m free t [] a p = refl
latest_same bs m free t (e ∷ es) a p =
    rw (t (last_place m e) (a e (inl refl)).last, latest_same bs m free t es (λ x h. a x (inr h)) p)

all_dropped : (i : ℕ) (ds : List Dep) → length ds ≤ i → drop i ds ≡ []
all_dropped zero [] h = refl
all_dropped (suc i) [] h = refl
all_dropped zero (e ∷ es) h = absurd (omega arith)
all_dropped (suc i) (e ∷ es) h = all_dropped i es (omega arith)

pub collect_done
    : {free : List ℕ} {m n : ℕ} {es : List DE.Dependence} {i : ℕ} {xs : List ℕ} → Collecting free m n es i xs
    → (bs : List ℕ) → length (deps_in n es) ≤ i → FreeSays bs m free → AllPlaced m (deps_in n es)
    → LatestSays bs m (deps_in n es) xs
collect_done {free} {m} {n} {es} {i} {xs} c bs h t a p l =
    let ds = deps_in n es in
    let z = ap (λ (fs : List Dep). latest_of (at free) m fs p) (all_dropped i ds h) in
    omega (arith, c.rest p l, z) ∙ latest_same bs m free t ds a p
