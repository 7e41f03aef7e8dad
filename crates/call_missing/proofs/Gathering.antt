-- The dependences one after the other, from the last: the loops that each has listed are added.
-- Main statements: `are_loops`, `barriered`; `Gathered`, what a turn keeps; `gather_start`, `gather_on`, `gather_done`;
-- `listed_alone`, of one dependence.
use mathlib.Core.Path.{◌≡◌, refl, sym, ap, ◌∙◌}
use mathlib.Core.Bool.{Bool, true, false, ◌&&◌}
use mathlib.Core.List.{List, [], ◌∷◌}
use Prim.Native.Nat.{ℕ, suc, ◌-◌, ◌≤◌, ◌<◌}
use native.Mathlib.Omega.{arith}
use lib.ListN.{length, drop, drop_of_length-le}
use Rattle.laws.specs.Choice.{is_in}
use Rattle.laws.specs.Entries.{at}
use Rattle.laws.proofs.Tests.{and_true}
use Rattle.laws.proofs.Members.{among_drop}
use Rattle.laws.proofs.Connectives.{or_off}
use Rattle.laws.proofs.Ors.{or_turned}
use Rattle.paper_nests.specs.declared.Dependence as DE
use Rattle.paper_nests.specs.Kinds.{POINTS}
use Rattle.paper_nests.specs.Nests.{Dep}
use Rattle.paper_nests.specs.Loops.{is_do, end_of, HasEnds, is_around}
use Rattle.paper_nests.specs.Stored.{dep_in}
use Rattle.paper_nests.specs.Valid.{is_shape, are_deps}
use Rattle.paper_nests.proofs.Deps.{Fits, deps_fit}
use Rattle.paper_nests.proofs.Loops.{end-after, end_there, nested}
use Rattle.paper_placements.specs.Words.{GAPS, holds, gaps_in}
use Rattle.paper_placements.proofs.Words.{gaps_of_same, gaps_of_up_to}
use Rattle.call_missing.specs.Foreign.{some_in}
use Rattle.call_missing.specs.Listed.{is_listed_by, is_listed, listed_of}
use Rattle.call_missing.specs.Says.{AreDos, FlagBits, ListedSays}
use Rattle.call_missing.specs.Covering.{AreLoops, has_barrier, WithBarrier, Barriered, ListedBySays}
use Rattle.call_missing.proofs.Members.{listed_below}

-- the flagged loops with a barrier inside
module _
    (ps ends flagged key ws : List ℕ) (shape : is_shape ps ≡ true) (few : length ps ≤ POINTS) (table : HasEnds ps ends)
    (put : WithBarrier ends flagged key ws) where
  pub are_loops : AreDos ps flagged → AreLoops ends ws
  are_loops dos =
      record {
        behind = λ d l h. let k = is-do d l h in rw (table d k) (end-after ps shape d k);
        fits = λ d l h. let k = is-do d l h in rw (table d k) (omega (arith, end_there ps shape d k, few));
        nested = inside;
      }
    where
      is-do : (d : ℕ) → d < GAPS → holds ws d ≡ true → is_do ps d ≡ true
      is-do d l h = dos d l (and_true (holds flagged d) (has_barrier ends key d) (sym (put d l) ∙ h)).0

      inside :
          (d x : ℕ) → holds ws d ≡ true → holds ws x ≡ true → d < x → x ≤ at ends d → x < GAPS → at ends x < at ends d
      inside d x h k l m n =
          let a = is-do d (omega arith) h in
          let b = is-do x n k in
          let reach : x ≤ end_of ps d = rw (table d a) at m in
          rw (table d a, table x b) (nested ps shape d x a b l reach)

  pub barriered : (fs : List ℕ) → FlagBits ps fs flagged → Barriered ps fs ends key ws
  barriered fs f =
      record {
        shape = shape;
        few = few;
        ends_are = table;
        flags = f.flags;
        loops_are = λ d l. put d l ∙ rw (f.bits_are d l) (go d (is_in d fs) refl);
      }
    where
      go :
          (d : ℕ) (t : Bool) → is_in d fs ≡ t →
          (t && has_barrier ends key d) ≡ (t && some_in (λ g. is_around ps g d) (gaps_in key))
      go d true h = let e : at ends d ≡ end_of ps d = table d (f.flags d h) in rw e
      go d false h = refl

-- the loops that the dependences from i on have listed
pub record Gathered (ps : List ℕ) (ds : List Dep) (ends key ws : List ℕ) (i : ℕ) (listed : List ℕ) : Type 0 where
  pub within : i ≤ length ds
  pub so_far :
      (fs : List ℕ) → Barriered ps fs ends key ws → (d : ℕ) → d < GAPS →
      holds listed d ≡ is_listed ps (drop i ds) fs (gaps_in key) d

module _ {ps : List ℕ} {ds : List Dep} {ends key ws : List ℕ} where
  pub gather_start :
      {i : ℕ} {listed : List ℕ} → i ≡ length ds → ((d : ℕ) → holds listed d ≡ false) →
      Gathered ps ds ends key ws i listed
  unfolding is_listed
  gather_start {i} {listed} e none =
      let end : length ds ≤ i = omega arith in
      let past : drop i ds ≡ [] = drop_of_length-le ds end in
      record { within = omega arith; so_far = λ fs b d l. rw past (none d) }

  pub gather_on :
      {i : ℕ} {listed : List ℕ} → 0 < i → Gathered ps ds ends key ws i listed → are_deps ps ds ≡ true →
      (e : DE.Dependence) {r : List ℕ} → drop (i - 1) ds ≡ dep_in e ∷ drop (suc (i - 1)) ds →
      ListedBySays ends ws key listed e r → Gathered ps ds ends key ws (i - 1) r
  unfolding is_listed
  gather_on {i} {listed} some g deps e {r} here says =
      record { within = omega (arith, g.within); so_far = so_far }
    where
      so_far :
          (fs : List ℕ) → Barriered ps fs ends key ws → (d : ℕ) → d < GAPS →
          holds r d ≡ is_listed ps (drop (i - 1) ds) fs (gaps_in key) d
      so_far fs b d l =
          let on : suc (i - 1) ≡ i = omega arith in
          let next : drop (i - 1) ds ≡ dep_in e ∷ drop i ds = here ∙ ap (λ (k : ℕ). dep_in e ∷ drop k ds) on in
          let fits = deps_fit ps ds deps (dep_in e) (among_drop (dep_in e) ds (drop (suc (i - 1)) ds) (i - 1) here) in
          says ps fs b fits d l ∙
          rw (next, g.so_far fs b d l)
          (or_turned (is_listed ps (drop i ds) fs (gaps_in key) d) (is_listed_by ps fs (gaps_in key) (dep_in e) d))

  pub gather_done :
      {i : ℕ} {r : List ℕ} (flagged : List ℕ) → i ≤ 0 → Gathered ps ds ends key ws i r → length ps ≤ POINTS →
      ((fs : List ℕ) → FlagBits ps fs flagged → Barriered ps fs ends key ws) → ListedSays ps ds flagged key r
  unfolding gaps_in listed_of
  gather_done {i} {r} flagged z g few all fs f =
      let first : i ≡ 0 = omega arith in
      gaps_of_same (holds r) listed GAPS 0 (λ d a l. told first d (omega arith)) ∙
      gaps_of_up_to listed (length ps) GAPS few (λ d a l. listed_below ps ds fs (gaps_in key) f.flags d a)
    where
      listed : ℕ → Bool
      listed = is_listed ps ds fs (gaps_in key)

      told : i ≡ 0 → (d : ℕ) → d < GAPS → holds r d ≡ is_listed ps ds fs (gaps_in key) d
      told e d l = g.so_far fs (all fs f) d l ∙ ap (λ (k : ℕ). is_listed ps (drop k ds) fs (gaps_in key) d) e

-- words with the loops that a dependence adds to none
pub listed_alone
    : {ps fs ends key ws : List ℕ} (none : List ℕ) (e : DE.Dependence) (r : List ℕ)
    → Barriered ps fs ends key ws
    → Fits ps (dep_in e)
    → ((d : ℕ) → holds none d ≡ false)
    → ListedBySays ends ws key none e r
    → gaps_in r ≡ listed_of ps (dep_in e ∷ []) fs (gaps_in key)
unfolding gaps_in listed_of is_listed
listed_alone {ps} {fs} {ends} {key} {ws} none e r b fits empty says =
    gaps_of_same (holds r) listed GAPS 0 (λ d a l. told d (omega arith)) ∙
    gaps_of_up_to listed (length ps) GAPS b.few
    (λ d a l. listed_below ps (dep_in e ∷ []) fs (gaps_in key) b.flags d a)
  where
    listed : ℕ → Bool
    listed = is_listed ps (dep_in e ∷ []) fs (gaps_in key)

    told : (d : ℕ) → d < GAPS → holds r d ≡ is_listed ps (dep_in e ∷ []) fs (gaps_in key) d
    told d l =
        says ps fs b fits d l ∙ rw (empty d) (sym (or_off (is_listed_by ps fs (gaps_in key) (dep_in e) d)))
