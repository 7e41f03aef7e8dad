-- The pass over the line behind a first barrier, place by place: counted, and laid down.
-- Main definitions: `Counting`, `Laying`. Main statements: `places_few`; `counting_start`, `counting_cut`,
-- `counting_pass`, `counting_done`; `laying_start`, `laying_cut`, `laying_pass`, `laying_done`.
use mathlib.Core.Path.{◌≡◌, refl, sym, ap, ◌∙◌}
use mathlib.Core.Bool.{Bool, true, false, ◌||◌}
use mathlib.Core.List.{List, [], ◌∷◌}
use Prim.Native.Nat.{ℕ, zero, suc, ◌+◌, ◌-◌, ◌≤◌, ◌<◌}
use native.Mathlib.Numerals.{add-one}
use native.Mathlib.Omega.{arith}
use lib.Dec.{eqb, ltb}
use lib.ListN.{length}
use borrow.Author.Tests.{lt-ltb, le-ltb}
use Rattle.laws.specs.Choice.{pick, is_in}
use Rattle.laws.proofs.Connectives.{or_off}
use Rattle.laws.proofs.Ors.{or_assoc, or_swap}
use Rattle.paper_placements.specs.Words.{kept, holds}
use Rattle.call_textbook.specs.Places.{gap_at, gaps_at, cut_places, places_behind, cuts_behind}
use Rattle.call_textbook.specs.Steps.{LaySays}

module _ (latest : ℕ → ℕ) where
  -- one place more: cut, or passed
  cut_here : (last k p : ℕ) → last < latest p → cut_places latest last (suc k) p ≡ p ∷ cut_places latest p k (suc p)
  unfolding cut_places
  cut_here last k p h = rw (lt-ltb last (latest p) h)

  passed_here : (last k p : ℕ) → latest p ≤ last → cut_places latest last (suc k) p ≡ cut_places latest last k (suc p)
  unfolding cut_places
  passed_here last k p h = rw (le-ltb last (latest p) h)

  none_left : (last p : ℕ) → cut_places latest last 0 p ≡ []
  unfolding cut_places
  none_left last p = refl

  pub places_few : (last k p : ℕ) → length (cut_places latest last k p) ≤ k
  unfolding cut_places
  places_few last zero p = omega arith
  places_few last (suc k) p = go (ltb last (latest p)) (places_few (pick (ltb last (latest p)) p last) k (suc p))
    where
      go
          : (t : Bool) → length (cut_places latest (pick (ltb last (latest p)) p last) k (suc p)) ≤ k
          → length (kept t p (cut_places latest (pick (ltb last (latest p)) p last) k (suc p))) ≤ suc k
      go true h = omega arith
      go false h = omega arith

-- ---- counted

-- the cuts so far and those from p on are all
pub record Counting (latest : ℕ → ℕ) (m g cuts last p : ℕ) : Type 0 where
  pub left : ℕ
  pub to_end : p + left ≡ g + m
  pub rest : cuts + length (cut_places latest last left p) ≡ cuts_behind latest m g
  pub few : cuts ≤ p

pub counting_start : (latest : ℕ → ℕ) (m g : ℕ) → 0 < g → g ≤ m → Counting latest m g 0 g (g + 1)
counting_start latest m g f l =
    record { left = m - 1; to_end = omega arith; rest = rw add-one (omega arith); few = omega arith }

module _ {latest : ℕ → ℕ} {m g cuts last p : ℕ} (c : Counting latest m g cuts last p) where
  abbrev behind : ℕ
  behind = c.left - 1

  next : p + 1 ≡ suc p
  next = omega arith

  -- the cuts from p on, where a place is left
  split : p < g + m → cut_places latest last c.left p ≡ cut_places latest last (suc (c.left - 1)) p
  split h =
      let e : c.left ≡ suc (c.left - 1) = omega (arith, c.to_end) in
      ap (λ (k : ℕ). cut_places latest last k p) e

  pub counting_cut : p < g + m → last < latest p → Counting latest m g (cuts + 1) p (p + 1)
  counting_cut h l =
      let z = ap length (split h ∙ cut_here latest last behind p l) in
      record {
        left = behind;
        to_end = omega (arith, c.to_end);
        rest = rw next (omega (arith, c.rest, z));
        few = omega (arith, c.few);
      }

  pub counting_pass : p < g + m → latest p ≤ last → Counting latest m g cuts last (p + 1)
  counting_pass h l =
      let z = ap length (split h ∙ passed_here latest last behind p l) in
      record {
        left = behind;
        to_end = omega (arith, c.to_end);
        rest = rw next (omega (arith, c.rest, z));
        few = omega (arith, c.few);
      }

  pub counting_done : g + m ≤ p → cuts ≡ cuts_behind latest m g
  counting_done h =
      let e : c.left ≡ 0 = omega (arith, c.to_end) in
      let z = ap (λ (k : ℕ). length (cut_places latest last k p)) e ∙ ap length (none_left latest last p) in
      omega (arith, c.rest, z)

-- ---- laid down

-- the barriers laid so far and those from p on are all
pub record Laying (latest : ℕ → ℕ) (m g : ℕ) (ws : List ℕ) (last p : ℕ) : Type 0 where
  pub left : ℕ
  pub to_end : p + left ≡ g + m
  pub rest
      : (i : ℕ)
      → (holds ws i || is_in i (gaps_at m (cut_places latest last left p))) ≡
      is_in i (g ∷ gaps_at m (places_behind latest m g))

pub laying_start
    : (latest : ℕ → ℕ) (m g : ℕ) (ws vs : List ℕ) → 0 < g → g ≤ m → ((i : ℕ) → holds ws i ≡ false)
    → ((i : ℕ) → holds vs i ≡ (eqb i g || holds ws i))
    → Laying latest m g vs g (g + 1)
laying_start latest m g ws vs f l none put =
    record {
      left = m - 1;
      to_end = omega arith;
      rest = λ i. rw (add-one, put i, none i, or_off (eqb i g));
    }

module _ {latest : ℕ → ℕ} {m g : ℕ} {ws : List ℕ} {last p : ℕ} (w : Laying latest m g ws last p) where
  abbrev after : ℕ
  after = w.left - 1

  -- gap i is laid, or lies ahead
  abbrev in-all : ℕ → List ℕ → Bool
  in-all i qs = holds ws i || is_in i (gaps_at m qs)

  cut_off : p < g + m → cut_places latest last w.left p ≡ cut_places latest last (suc (w.left - 1)) p
  cut_off h =
      let e : w.left ≡ suc (w.left - 1) = omega (arith, w.to_end) in
      ap (λ (k : ℕ). cut_places latest last k p) e

  pub laying_cut
      : (vs : List ℕ) (h : ℕ) → p < g + m → last < latest p → h ≡ gap_at m p
      → ((i : ℕ) → holds vs i ≡ (eqb i h || holds ws i))
      → Laying latest m g vs p (p + 1)
  laying_cut vs h l b e put =
      record {
        left = after;
        to_end = omega (arith, w.to_end);
        rest = λ i.
            let ahead = is_in i (gaps_at m (cut_places latest p after (suc p))) in
            let y = sym (ap (in-all i) (cut_off l ∙ cut_here latest last after p b)) ∙ w.rest i in
            let here = eqb i (gap_at m p) in
            rw (add-one, put i, e) (sym (or_assoc here (holds ws i) ahead) ∙ or_swap here (holds ws i) ahead ∙ y);
      }

  pub laying_pass : p < g + m → latest p ≤ last → Laying latest m g ws last (p + 1)
  laying_pass l b =
      record {
        left = after;
        to_end = omega (arith, w.to_end);
        rest = λ i. rw add-one (sym (ap (in-all i) (cut_off l ∙ passed_here latest last after p b)) ∙ w.rest i);
      }

  pub laying_done : g + m ≤ p → LaySays latest m g ws
  laying_done h i =
      let e : w.left ≡ 0 = omega (arith, w.to_end) in
      let z = ap (λ (k : ℕ). cut_places latest last k p) e ∙ none_left latest last p in
      sym (or_off (holds ws i)) ∙ sym (ap (in-all i) z) ∙ w.rest i
