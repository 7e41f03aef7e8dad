-- The values of all suffixes, written in place of what is made from each start on: the value for q is read at the later
-- of q and `first`, which is not written yet.
-- Main definitions: `Valuing`, `EarlyValuing`, `LateValuing`. Main statements: `early_low`, `early_high`,
-- `late_more`, `late_all`.
use mathlib.Core.Path.{◌≡◌, refl, ◌∙◌, ap}
use mathlib.Core.Bool.{Bool, true, false, ◌||◌}
use mathlib.Core.List.{List}
use mathlib.Core.Logic.{⊎_elim}
use Prim.Native.Nat.{ℕ, ◌+◌, ◌≤◌, ◌<◌, min}
use native.Mathlib.Omega.{arith}
use lib.Dec.{leb}
use lib.ListN.{length, set, length-set}
use borrow.Author.Tests.{lt-ltb, le-ltb, leb-true, leb-false}
use lib.Seq.{get_or-set_same, get_or-set_other}
use Rattle.laws.specs.Choice.{pick}
use Rattle.laws.specs.Entries.{at}
use Rattle.laws.proofs.Tests.{eq_or, le_or}
use Rattle.plan_method.specs.Sweep.{st, bare, put, close}
use Rattle.plan_sweeps.specs.Listed.{row}
use Rattle.plan_starts.specs.Started.{later}
use Rattle.plan_starts.proofs.Suffixes.{later_low, later_high}
use Rattle.plan_rows.specs.Valued.{CloseSays, CeilingSays, ClosedSays, FrontsIn, ValuesRoom}
use Rattle.plan_rows.proofs.Suffix.{close_low, close_high}
use Rattle.plan_rows.proofs.Listings.{listing_more}

pub record Valuing (limit : List ℕ) (base d e first : ℕ) (cs₀ fs₀ cs fs : List ℕ) (m p : ℕ) : Type 0 where
  pub low : d ≤ p
  pub high : p ≤ e
  pub cs_length : length cs ≡ length cs₀
  pub fs_length : length fs ≡ length fs₀
  pub c_rest : (x : ℕ) → p < x → at cs x ≡ at cs₀ x
  pub f_rest : (x : ℕ) → p < x → at fs x ≡ at fs₀ x
  pub closed : ClosedSays limit base d e first cs₀ fs₀ cs fs p m
  pub fronts : FrontsIn d e fs p
  pub most : p ≤ d → CeilingSays (at cs₀ first) d e first m

-- before `first` the least is that of `first`, or one more
pub record EarlyValuing (limit : List ℕ) (base d e first : ℕ) (cs₀ fs₀ cs fs : List ℕ) (m p : ℕ) : Type 0 where
  pub valuing : Valuing limit base d e first cs₀ fs₀ cs fs m p
  pub least : d + 1 < first → (at cs₀ first ≤ m) × (m ≤ at cs₀ first + 1)

-- from there on: where the values up to p₀ stood in cs₀ and fs₀, those up to p stand in cs and fs
pub record LateValuing (limit : List ℕ) (base d e first : ℕ) (cs₀ fs₀ : List ℕ) (m₀ p₀ : ℕ) (cs fs : List ℕ) (m p : ℕ) :
    Type 0 where
  pub late : first ≤ p + 1
  pub high : p ≤ e
  pub cs_length : length cs ≡ length cs₀
  pub fs_length : length fs ≡ length fs₀
  pub valuing
      : (xs ys : List ℕ)
      → ValuesRoom limit base d e first xs ys
      → Valuing limit base d e first xs ys cs₀ fs₀ m₀ p₀
      → Valuing limit base d e first xs ys cs fs m p

-- the least so far, where it starts above every count
least_pick : (p d c m : ℕ) → (p ≤ d → c ≤ m) → min c m ≡ pick (leb p d || leb c m) c m
least_pick p d c m h = go (leb p d) (leb c m) refl refl
  where
    go : (t u : Bool) → leb p d ≡ t → leb c m ≡ u → min c m ≡ pick (t || u) c m
    go true u i j = omega (arith, h (leb-true p d i))
    go false true i j = omega (arith, leb-true c m j)
    go false false i j = omega (arith, leb-false c m j)

-- the later of two gaps
later_second : (a b : ℕ) → a < b → b ≡ later a b
unfolding later
later_second a b h = rw (lt-ltb a b h)

later_first : (a b : ℕ) → b ≤ a → a ≡ later a b
unfolding later
later_first a b h = rw (le-ltb a b h)

-- a closed front lies in the range as well
close_within : (d e limit c f c' f' : ℕ) → d < e → d < f → f ≤ e → CloseSays d limit c f c' f' →
    (d < f') × (f' ≤ e)
unfolding close put
close_within d e limit c f c' f' h i j says = go (leb f limit) (says (st c f bare) refl refl).f_is
  where
    go : (t : Bool) → f' ≡ (pick t (st c f bare) (put d (st c f bare))).f → (d < f') × (f' ≤ e)
    go true z = (omega arith, omega arith)
    go false z = (omega arith, omega arith)

-- with at most one barrier more
close_count : (d limit c f c' f' : ℕ) → CloseSays d limit c f c' f' → c' ≤ c + 1
unfolding close put
close_count d limit c f c' f' says = go (leb f limit) (says (st c f bare) refl refl).c_is
  where
    go : (t : Bool) → c' ≡ (pick t (st c f bare) (put d (st c f bare))).c → c' ≤ c + 1
    go true z = omega arith
    go false z = omega arith

module _ {limit : List ℕ} {base d e first : ℕ} {cs₀ fs₀ : List ℕ} (room : ValuesRoom limit base d e first cs₀ fs₀) where
  module _ {cs fs : List ℕ} {m p : ℕ} (v : Valuing limit base d e first cs₀ fs₀ cs fs m p) (before : p < e) where
    -- where the value for p + 1 is read
    abbrev read : ℕ
    read = later (p + 1) first

    read_low : d < read
    read_low = omega (arith, later_low (p + 1) first, v.low)

    read_high : read ≤ e
    read_high = later_high (p + 1) first e (omega arith) room.first_high

    valuing_more
        : {c₁ f₁ c f m' : ℕ}
        → c₁ ≡ at cs₀ (later (p + 1) first)
        → f₁ ≡ at fs₀ (later (p + 1) first)
        → CloseSays d (row limit base (p + 1)) c₁ f₁ c f
        → m' ≡ min c m
        → Valuing limit base d e first cs₀ fs₀ (set cs (p + 1) c) (set fs (p + 1) f) m' (p + 1)
    valuing_more {c₁} {f₁} {c} {f} {m'} ci fi says n =
        record {
          low = omega (arith, v.low);
          high = omega arith;
          cs_length = length-set cs (p + 1) c ∙ v.cs_length;
          fs_length = length-set fs (p + 1) f ∙ v.fs_length;
          c_rest = λ y i. get_or-set_other cs (p + 1) y c 0 (λ (z : y ≡ p + 1). omega arith) ∙
              v.c_rest y (omega arith);
          f_rest = λ y i. get_or-set_other fs (p + 1) y f 0 (λ (z : y ≡ p + 1). omega arith) ∙
              v.f_rest y (omega arith);
          closed = λ s sc sf. listing_more (λ q. close d (row limit base q) (s q)) cs fs d p m c f m' cs_there fs_there
              (says (s (p + 1)) (ci ∙ sc (p + 1) (omega (arith, v.low)) (omega arith))
              (fi ∙ sf (p + 1) (omega (arith, v.low)) (omega arith))) (n ∙ least_pick p d c m first_least)
              (v.closed s sc sf);
          fronts =
              record {
                low = λ q i j. ⊎_elim
                    (λ (z : q ≡ p + 1). rw (z, get_or-set_same fs (p + 1) f 0 fs_there) within.0)
                    (λ (z : q ≡ p + 1 → ⊥). rw (get_or-set_other fs (p + 1) q f 0 z)
                    (v.fronts.low q i (omega (arith, z))))
                    (eq_or q (p + 1));
                high = λ q i j. ⊎_elim
                    (λ (z : q ≡ p + 1). rw (z, get_or-set_same fs (p + 1) f 0 fs_there) within.1)
                    (λ (z : q ≡ p + 1 → ⊥). rw (get_or-set_other fs (p + 1) q f 0 z)
                    (v.fronts.high q i (omega (arith, z))))
                    (eq_or q (p + 1));
              };
          most = λ h. absurd (omega (arith, v.low));
        }
      where
        cs_there : p + 1 < length cs
        cs_there = omega (arith, room.cs_room, v.cs_length)

        fs_there : p + 1 < length fs
        fs_there = omega (arith, room.fs_room, v.fs_length)

        within : (d < f) × (f ≤ e)
        within = close_within d e (row limit base (p + 1)) c₁ f₁ c f room.long
            (omega (arith, fi, room.ranged.low read read_low read_high))
            (omega (arith, fi, room.ranged.high read read_low read_high)) says

        first_least : p ≤ d → c ≤ m
        first_least h =
            let more = close_count d (row limit base (p + 1)) c₁ f₁ c f says in
            ⊎_elim
            (λ (z : first ≤ d + 1).
            omega (arith, (v.most h).late z, more, ci, room.ranged.small read read_low read_high, read_high))
            (λ (z : d + 1 < first).
            let y = ap (at cs₀) (later_second (p + 1) first (omega (arith, v.low))) in
            omega (arith, (v.most h).early z, more, ci, y))
            (le_or first (d + 1))

  -- before `first` its entry is read, with a barrier more where its front lies beyond the limit
  module _
      {cs fs : List ℕ} {m p : ℕ} (s : EarlyValuing limit base d e first cs₀ fs₀ cs fs m p) (early : p + 1 < first)
    where
      before : p < e
      before = omega (arith, room.first_high)

      near : (at cs₀ first ≤ m) × (m ≤ at cs₀ first + 1)
      near = s.least (omega (arith, s.valuing.low))

      early_more
          : {c f m' : ℕ}
          → CloseSays d (row limit base (p + 1)) (at cs₀ first) (at fs₀ first) c f
          → m' ≡ min c m
          → Valuing limit base d e first cs₀ fs₀ (set cs (p + 1) c) (set fs (p + 1) f) m' (p + 1)
      early_more = valuing_more s.valuing before (ap (at cs₀) (later_second (p + 1) first early))
          (ap (at fs₀) (later_second (p + 1) first early))

      pub early_low
          : at fs₀ first ≤ row limit base (p + 1)
          → EarlyValuing limit base d e first cs₀ fs₀ (set cs (p + 1) (at cs₀ first)) (set fs (p + 1) (at fs₀ first))
          (at cs₀ first) (p + 1)
      early_low low =
          record {
            valuing =
                early_more (close_low d (row limit base (p + 1)) (at cs₀ first) (at fs₀ first) low)
                (omega (arith, near));
            least = λ z. (omega arith, omega arith);
          }

      pub early_high
          : row limit base (p + 1) < at fs₀ first
          → EarlyValuing limit base d e first cs₀ fs₀ (set cs (p + 1) (at cs₀ first + 1)) (set fs (p + 1) (d + 1)) m
          (p + 1)
      early_high high =
          record {
            valuing =
                early_more (close_high d (row limit base (p + 1)) (at cs₀ first) (at fs₀ first) high)
                (omega (arith, near));
            least = λ z. near;
          }

-- from `first` on each gap's own entry is read
module _
    {limit : List ℕ} {base d e first : ℕ} {cs₀ fs₀ : List ℕ} {m₀ p₀ : ℕ} {cs fs : List ℕ} {m p : ℕ}
    (s : LateValuing limit base d e first cs₀ fs₀ m₀ p₀ cs fs m p)
  where
    pub late_more
        : {c f m' : ℕ}
        → p < e
        → CloseSays d (row limit base (p + 1)) (at cs (p + 1)) (at fs (p + 1)) c f
        → m' ≡ min c m
        → LateValuing limit base d e first cs₀ fs₀ m₀ p₀ (set cs (p + 1) c) (set fs (p + 1) f) m' (p + 1)
    late_more {c} {f} before says n =
        record {
          late = omega (arith, s.late);
          high = omega arith;
          cs_length = length-set cs (p + 1) c ∙ s.cs_length;
          fs_length = length-set fs (p + 1) f ∙ s.fs_length;
          valuing = λ xs ys r w.
              let v = s.valuing xs ys r w in
              let here = later_first (p + 1) first s.late in
              valuing_more r v before (v.c_rest (p + 1) (omega arith) ∙ ap (at xs) here)
              (v.f_rest (p + 1) (omega arith) ∙ ap (at ys) here) says n;
        }

    pub late_all
        : {xs ys : List ℕ}
        → ValuesRoom limit base d e first xs ys
        → Valuing limit base d e first xs ys cs₀ fs₀ m₀ p₀
        → e ≤ p
        → ClosedSays limit base d e first xs ys cs fs e m × FrontsIn d e fs e
    late_all {xs} {ys} room w all =
        let v = s.valuing xs ys room w in
        let z : p ≡ e = omega (arith, s.high) in
        (λ t tc tf. rw z at (v.closed t tc tf), rw z at v.fronts)
