-- What the tries lead to: a correct placement, with no more calls than it started from, in no more tries than the
-- budget; with a larger budget, no more calls.
-- Main statements: `improved_correct`, `improved_gaps`, `improved_cuts`, `tries_within`, `never_more`, `more_budget`.
use mathlib.Core.Path.{◌≡◌, refl, sym, ◌∙◌}
use mathlib.Core.Bool.{Bool, true, false, not}
use mathlib.Core.List.{List, [], ◌∷◌}
use mathlib.Core.Logic.{⊎_elim}
use Prim.Native.Nat.{ℕ, zero, suc, ◌+◌, ◌-◌, ◌≤◌, ◌<◌}
use native.Mathlib.Omega.{arith}
use lib.Dec.{ltb}
use lib.ListN.{length}
use borrow.Author.Tests.{ltb-true}
use Rattle.laws.specs.Choice.{pick, is_in}
use Rattle.laws.proofs.Tests.{le_or, never_both}
use Rattle.laws.proofs.Members.{in_here, in_later}
use Rattle.paper_nests.specs.Nests.{Nest}
use Rattle.paper_placements.specs.Placements.{are_gaps, is_correct}
use Rattle.paper_placements.proofs.Cuts.{AllCut, avoids_none, correct_by, correct_gaps, correct_cuts}
use Rattle.paper_placements.proofs.Words.{gaps_of_in, gaps_of_from, gaps_of_to}
use Rattle.run_barriers.specs.Calls.{calls_of}
use Rattle.call_improve.specs.Tries.{free_of, try_at}
use Rattle.call_improve.specs.Rounds.{go, improved_of}
use Rattle.call_improve.proofs.Trimmed.{try_gaps, try_trimmed}

-- a gap without a barrier
pub record Free (n : Nest) (x : List ℕ) (g : ℕ) : Type 0 where
  pub lacks : is_in g x ≡ false
  pub first : 0 < g
  pub inside : g < length n.points

pub free-of : (n : Nest) (x : List ℕ) (g : ℕ) → is_in g (free_of n x) ≡ true → Free n x g
free-of n x g h = record { lacks = lacks; first = first; inside = inside }
  where
    k : ℕ
    k = length n.points - 1

    first : 0 < g
    first =
        ⊎_elim
        (λ (z : 1 ≤ g). z)
        (λ (z : g < 1). never_both h (gaps_of_from (λ i. not (is_in i x)) k 1 g z))
        (le_or 1 g)

    below : g < 1 + k
    below =
        ⊎_elim
        (λ (z : 1 + k ≤ g). never_both h (gaps_of_to (λ i. not (is_in i x)) k 1 g z))
        (λ (z : g < 1 + k). z)
        (le_or (1 + k) g)

    inside : g < length n.points
    inside = omega (arith, first, below)

    off : (t : Bool) → not t ≡ true → t ≡ false
    off true p = sym p
    off false p = refl

    lacks : is_in g x ≡ false
    lacks = off (is_in g x) (sym (gaps_of_in (λ i. not (is_in i x)) k 1 g first below) ∙ h)

-- ---- correct

-- gaps in rising order that cut every dependence, and gaps without a barrier still to be tried
record Standing (n : Nest) (x gs : List ℕ) : Type 0 where
  pub gaps : are_gaps n x ≡ true
  pub cut : AllCut n.points n.deps x
  pub free : (g : ℕ) → is_in g gs ≡ true → Free n x g

record Sound (n : Nest) (x : List ℕ) : Type 0 where
  pub gaps : are_gaps n x ≡ true
  pub cut : AllCut n.points n.deps x

module _ (n : Nest) (ts : List ℕ) where
  -- after a try, taken or not
  tried : (x : List ℕ) (g : ℕ) (gs : List ℕ) (t : Bool) → Standing n x (g ∷ gs) →
      Standing n (pick t (try_at n x g) x) (pick t (free_of n (try_at n x g)) gs)
  tried x g gs true s =
      let f = s.free g (in_here g gs) in
      record {
        gaps = try_gaps n x g s.gaps s.cut f.lacks f.first f.inside;
        cut = (try_trimmed n x g s.gaps s.cut f.lacks f.first f.inside).cut;
        free = free-of n (try_at n x g);
      }
  tried x g gs false s =
      record { gaps = s.gaps; cut = s.cut; free = λ h p. s.free h (in_later h g gs p) }

  go_sound : (b : ℕ) (x gs : List ℕ) (k : ℕ) → Standing n x gs → Sound n (go n ts b x gs k).gaps
  unfolding go
  go_sound zero x [] k s = record { gaps = s.gaps; cut = s.cut }
  go_sound zero x (g ∷ gs) k s = record { gaps = s.gaps; cut = s.cut }
  go_sound (suc b) x [] k s = record { gaps = s.gaps; cut = s.cut }
  go_sound (suc b) x (g ∷ gs) k s =
      let y = try_at n x g in
      let t = ltb (calls_of n ts y) (calls_of n ts x) in
      go_sound b (pick t y x) (pick t (free_of n y) gs) (suc k) (tried x g gs t s)

  module _ (key : List ℕ) (gaps : are_gaps n key ≡ true) (cut : AllCut n.points n.deps key) (b : ℕ) where
    sound : Sound n (improved_of n ts key b).gaps
    sound = go_sound b key (free_of n key) 0 (record { gaps = gaps; cut = cut; free = free-of n key })

    -- the gaps rise, and every dependence is cut
    pub improved_gaps : are_gaps n (improved_of n ts key b).gaps ≡ true
    improved_gaps = sound.gaps

    pub improved_cuts : AllCut n.points n.deps (improved_of n ts key b).gaps
    improved_cuts = sound.cut

  pub improved_correct
      : n.barred ≡ []
      → (key : List ℕ) (b : ℕ)
      → is_correct n key ≡ true
      → is_correct n (improved_of n ts key b).gaps ≡ true
  improved_correct none key b h =
      let gs = (improved_of n ts key b).gaps in
      let gaps = correct_gaps n key h in
      let cut = correct_cuts n key h in
      correct_by n gs (improved_gaps key gaps cut b) (avoids_none n.barred none gs) (improved_cuts key gaps cut b)

  -- ---- tries

  go_tries : (b : ℕ) (x gs : List ℕ) (k : ℕ) → (go n ts b x gs k).tries ≤ k + b
  unfolding go
  go_tries zero x [] k = omega arith
  go_tries zero x (g ∷ gs) k = omega arith
  go_tries (suc b) x [] k = omega arith
  go_tries (suc b) x (g ∷ gs) k =
      let y = try_at n x g in
      let t = ltb (calls_of n ts y) (calls_of n ts x) in
      omega (arith, go_tries b (pick t y x) (pick t (free_of n y) gs) (suc k))

  -- no more tries than the budget
  pub tries_within : (key : List ℕ) (b : ℕ) → (improved_of n ts key b).tries ≤ b
  tries_within key b = omega (arith, go_tries b key (free_of n key) 0)

  -- ---- calls

  go_calls : (b : ℕ) (x gs : List ℕ) (k : ℕ) → calls_of n ts (go n ts b x gs k).gaps ≤ calls_of n ts x
  unfolding go
  go_calls zero x [] k = omega arith
  go_calls zero x (g ∷ gs) k = omega arith
  go_calls (suc b) x [] k = omega arith
  go_calls (suc b) x (g ∷ gs) k =
      let y = try_at n x g in
      let t = ltb (calls_of n ts y) (calls_of n ts x) in
      omega (arith, go_calls b (pick t y x) (pick t (free_of n y) gs) (suc k), either t refl)
    where
      either
          : (t : Bool)
          → ltb (calls_of n ts (try_at n x g)) (calls_of n ts x) ≡ t
          → calls_of n ts (pick t (try_at n x g) x) ≤ calls_of n ts x
      either true e = omega (arith, ltb-true (calls_of n ts (try_at n x g)) (calls_of n ts x) e)
      either false e = omega arith

  pub never_more : (key : List ℕ) (b : ℕ) → calls_of n ts (improved_of n ts key b).gaps ≤ calls_of n ts key
  never_more key b = go_calls b key (free_of n key) 0

  go_more
      : (b c : ℕ) (x gs : List ℕ) (k : ℕ)
      → b ≤ c
      → calls_of n ts (go n ts c x gs k).gaps ≤ calls_of n ts (go n ts b x gs k).gaps
  unfolding go
  go_more zero zero x [] k l = omega arith
  go_more zero (suc c) x [] k l = omega arith
  go_more (suc b) zero x [] k l = omega arith
  go_more (suc b) (suc c) x [] k l = omega arith
  go_more zero c x (g ∷ gs) k l = go_calls c x (g ∷ gs) k
  go_more (suc b) zero x (g ∷ gs) k l = absurd (omega arith)
  go_more (suc b) (suc c) x (g ∷ gs) k l =
      let y = try_at n x g in
      let t = ltb (calls_of n ts y) (calls_of n ts x) in
      go_more b c (pick t y x) (pick t (free_of n y) gs) (suc k) (omega arith)

  -- with a larger budget, no more calls
  pub more_budget
      : (key : List ℕ) (b c : ℕ)
      → b ≤ c
      → calls_of n ts (improved_of n ts key c).gaps ≤ calls_of n ts (improved_of n ts key b).gaps
  more_budget key b c l = go_more b c key (free_of n key) 0 l
