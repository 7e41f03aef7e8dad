-- The search for the home of an independent dependence: from the loop around its source outwards, to the first that
-- reaches its target.
-- Main definitions: `Call`; `Climbing`, what a turn keeps. Main statements: `climb_from_do`, `climb_from_owner`,
-- `climb_falls`, `climb_on`, `climb_done`.
use mathlib.Core.Path.{◌≡◌, sym}
use mathlib.Core.Bool.{true, false}
use mathlib.Core.List.{List}
use mathlib.Core.Logic.{◌⊎◌, inl, inr, ⊎_elim}
use Prim.Native.Nat.{ℕ, suc, ◌≤◌, ◌<◌}
use native.Mathlib.Omega.{arith}
use lib.ListN.{length, get_or}
use borrow.Author.Tests.{eq-eqb, ne_eqb}
use Rattle.laws.specs.Entries.{at}
use Rattle.laws.proofs.Tests.{never_both, eq_or}
use Rattle.paper_nests.specs.Loops.{is_do, end_of, owner_from, owner_of}
use Rattle.paper_nests.specs.Valid.{is_shape}
use Rattle.paper_nests.proofs.Levels.{starts_with_do}
use Rattle.paper_nests.proofs.Loops.{Owner, owner_law, owner_from_is, outermost}
use Rattle.plan_tables.specs.Charts.{Points, OwnIs, EndsAre}

-- every loop that starts up to s and reaches t starts up to l
pub record Climbing (ps : List ℕ) (s t l : ℕ) : Type 0 where
  pub loop : is_do ps l ≡ true
  pub low : l ≤ s
  pub most : (d : ℕ) → is_do ps d ≡ true → d ≤ s → t ≤ end_of ps d → d ≤ l

-- what a call of `home_of` has
pub record Call (ps own ends : List ℕ) (s t : ℕ) : Type 0 where
  pub points : Points ps
  pub owners : OwnIs ps own
  pub stops : EndsAre ps ends
  pub forward : s < t
  pub there : t < length ps

module _ {ps own ends : List ℕ} {s t : ℕ} (a : Call ps own ends s t) where
  abbrev shape : is_shape ps ≡ true
  shape = a.points.shape

  pub climb_from_do : get_or ps s 0 ≡ 1 → Climbing ps s t s
  climb_from_do k =
      record { loop = eq-eqb (get_or ps s 0) 1 k; low = omega arith; most = λ d i b e. b }

  pub climb_from_owner : (get_or ps s 0 ≡ 1 → ⊥) → Climbing ps s t (at own s)
  climb_from_owner k = rw (a.owners s (omega (arith, a.forward, a.there))) from_owner
    where
      no-do : is_do ps s ≡ false
      no-do = ne_eqb (get_or ps s 0) 1 k

      after : 0 < s
      after = go (eq_or s 0)
        where
          go : (s ≡ 0) ⊎ (s ≡ 0 → ⊥) → 0 < s
          go (inl z) = never_both (starts_with_do ps shape) (rw z at no-do)
          go (inr z) = omega arith

      o : Owner ps s s (owner_of ps s)
      o = owner_law ps shape s after (omega (arith, a.forward, a.there))

      from_owner : Climbing ps s t (owner_of ps s)
      from_owner =
          record {
            loop = o.loop;
            low = omega (arith, o.below);
            most = λ d i b e. ⊎_elim
                (λ (z : d ≡ s). never_both (rw z at i) no-do)
                (λ (z : d ≡ s → ⊥). o.most d i (omega arith) (omega (arith, a.forward)))
                (eq_or d s);
          }

  module _ {l : ℕ} (p : Climbing ps s t l) where
    -- the loop does not reach t: it is not the outermost, and the loop around it starts before it
    passed : at ends l < t → 0 < l
    passed h = ⊎_elim
        (λ (z : l ≡ 0).
        let e : at ends 0 ≡ end_of ps 0 = a.stops 0 (starts_with_do ps shape) in
        let y : at ends 0 < t = rw z at h in
        absurd (omega (arith, outermost ps shape, a.there)))
        (λ (z : l ≡ 0 → ⊥). omega arith)
        (eq_or l 0)

    around : at ends l < t → Owner ps l l (owner_of ps l)
    around h = owner_law ps shape l (passed h) (omega (arith, p.low, a.forward, a.there))

    pub climb_falls : at ends l < t → at own l < l
    climb_falls h = omega (arith, a.owners l (omega (arith, p.low, a.forward, a.there)), (around h).below)

    pub climb_on : at ends l < t → Climbing ps s t (at own l)
    climb_on h = rw (a.owners l (omega (arith, p.low, a.forward, a.there)))
        (record {
          loop = (around h).loop;
          low = omega (arith, (around h).below, p.low);
          most = most;
        })
      where
        most : (d : ℕ) → is_do ps d ≡ true → d ≤ s → t ≤ end_of ps d → d ≤ owner_of ps l
        most d i b e = ⊎_elim
            (λ (z : d ≡ l).
            let y : t ≤ end_of ps l = rw z at e in
            absurd (omega (arith, a.stops l p.loop)))
            (λ (z : d ≡ l → ⊥).
            (around h).most d i (omega (arith, p.most d i b e)) (omega (arith, p.low, a.forward)))
            (eq_or d l)

    pub climb_done : t ≤ at ends l → l ≡ owner_from (suc s) t ps
    climb_done h =
        sym
        (owner_from_is ps shape (suc s) t l (omega (arith, a.forward)) a.there
        (record {
          loop = p.loop;
          below = omega (arith, p.low);
          holds = omega (arith, a.stops l p.loop);
          most = λ d i b e. p.most d i (omega arith) e;
        }))
