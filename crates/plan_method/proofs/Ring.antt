-- The ring is a family of lines: a placement with a gap from q on and a gap up to the limit of q cuts every dependence
-- that the loop carries; and a placement that cuts them all, with last gap q, has a gap up to the limit of q.
-- Main statements: `limit_low`, `limit_high`, `ring_cut`, `ring_gap`.
use mathlib.Core.Path.{◌≡◌}
use mathlib.Core.Bool.{Bool, true}
use mathlib.Core.Logic.{◌⊎◌, inl, inr, ⊎_elim}
use Prim.Native.Nat.{ℕ, suc, ◌≤◌, ◌<◌}
use native.Mathlib.Omega.{arith}
use Rattle.laws.proofs.Tests.{le_or}
use Rattle.plan_method.specs.Sweep.{Lines}
use Rattle.plan_method.proofs.World.{World, Behind, Lawful}
use Rattle.plan_method.proofs.Claim.{Hit}
use Rattle.plan_method.proofs.Hits.{hit_wider, Last}

module _ (W : World) (N : Lines) (laws : Lawful W N) (d : ℕ) (is-do : W.loops.is_do d ≡ true) where
  abbrev e : ℕ
  e = W.loops.stop d

  module _ (q : ℕ) (low : d < q) (high : q ≤ e) where
    abbrev t : ℕ
    t = N.limit d q

    -- the limit lies in the loop's range
    pub limit_low : d < t
    limit_low =
        ⊎_elim
        (λ (z : t ≡ e). omega arith)
        (λ (z : Behind W d q t). laws.of_lines.back_end d z.a t is-do z.back)
        (laws.of_lines.limit_is d q is-do low high)

    pub limit_high : t ≤ e
    limit_high =
        ⊎_elim
        (λ (z : t ≡ e). omega arith)
        (λ (z : Behind W d q t). laws.of_lines.back_high d z.a t is-do z.back)
        (laws.of_lines.limit_is d q is-do low high)

    pub ring_cut : (x : ℕ → Bool) → Hit x (suc d) t → Hit x q e → (a b : ℕ) → W.Back d a b →
        Hit x (suc d) b ⊎ Hit x a e
    ring_cut x front back a b k =
        ⊎_elim
        (λ (z : a ≤ q). inr (hit_wider z (omega arith) back))
        (λ (z : q < a). inl (hit_wider (omega arith) (laws.of_lines.limit_least d q a b is-do low high z k) front))
        (le_or a q)

  -- a dependence that starts above the last gap is cut before its target
  pub ring_gap : (x : ℕ → Bool) → ((a t : ℕ) → W.Back d a t → Hit x (suc d) t ⊎ Hit x a e) →
      (k : Last x (suc d) e) → Hit x (suc d) (N.limit d k.gap)
  ring_gap x cuts k = ⊎_elim at_stop behind (laws.of_lines.limit_is d k.gap is-do k.low k.high)
    where
      at_stop : N.limit d k.gap ≡ e → Hit x (suc d) (N.limit d k.gap)
      at_stop z = record { gap = k.gap; low = k.low; high = omega (arith, k.high); holds = k.holds }

      behind : Behind W d k.gap (N.limit d k.gap) → Hit x (suc d) (N.limit d k.gap)
      behind z =
          ⊎_elim
          (λ (h : Hit x (suc d) (N.limit d k.gap)). h)
          (λ (h : Hit x z.a e). (
          absurd (k.last h.gap (omega (arith, h.low, z.above)) h.high h.holds)))
          (cuts z.a (N.limit d k.gap) z.back)
