-- The dependences renumbered one by one, from the last to the first.
-- Main definitions: `DepsFrom`, what a turn keeps; `Turn`, what it has. Main statements: `deps_start`, `reduce_done`,
-- `source_fits`, `target_fits`, `reduce_kept`, `reduce_stretch`, `reduce_shut`.
use mathlib.Core.Path.{◌≡◌, refl, sym, ap, subst, ◌∙◌}
use mathlib.Core.Bool.{Bool, true, false, ◌||◌}
use mathlib.Core.List.{List, [], ◌∷◌}
use mathlib.Core.Logic.{inl, inr, ⊎_elim}
use Prim.Native.Nat.{ℕ, zero, suc, ◌-◌, ◌≤◌, ◌<◌}
use native.Mathlib.Omega.{arith}
use Rattle.std.specs.Prelude.{Some, None}
use lib.ListN.{length, get_or, set, take, drop, length-set, drop_of_length-le}
use lib.Seq.{get_or-set_same, get_or-set_other, set-set}
use Rattle.laws.specs.Entries.{at}
use Rattle.laws.proofs.Tests.{eq_or, and_true, or_left, or_right}
use Rattle.paper_nests.specs.declared.Dependence as DE
use Rattle.paper_nests.specs.declared.Nest as DN
use Rattle.paper_nests.specs.Kinds.{POINTS}
use Rattle.paper_nests.specs.Nests.{Dep, dep, Nest, nest}
use Rattle.paper_nests.specs.Ring.{one_loop}
use Rattle.paper_nests.specs.Stored.{dep_in, deps_in, nest_in, IsCounted}
use Rattle.paper_nests.specs.Valid.{is_shape, is_dep, are_deps, is_valid}
use Rattle.paper_nests.proofs.Deps.{Fits, dep_fits, valid_is}
use Rattle.paper_nests.proofs.Loops.{end_there}
use Rattle.paper_nests.proofs.Stored.{deps_in_at, deps_in_length, counted_many}
use Rattle.paper_barred.specs.Ranks.{rank}
use Rattle.paper_barred.specs.Reduced.{is_shut, some_shut, is_blocked, ring_points, reduced_dep, reduced_deps}
use Rattle.paper_barred.proofs.Ranks.{rank_monotone}
use Rattle.plan_paper.specs.Tables.{HasRanks}
use Rattle.plan_paper.specs.Renumbering.{is_shut_at, stays, stretch, ReduceSays}
use Rattle.plan_paper.proofs.Blocked.{shut_ranked}
use Rattle.plan_paper.proofs.Renumbered.{first_loop, kept_dep, kept_open, stretch_dep}
use Rattle.plan_paper.proofs.Rings.{top_of, IsRing, top_is}

-- what a list of dependences has past its end
abbrev no_dependence : DE.Dependence
no_dependence = record { kind = 0; d = 0; s = 0; t = 0 }

abbrev pub dep_at : List DE.Dependence → ℕ → DE.Dependence
dep_at xs i = get_or xs i no_dependence

-- of the nest's dependences those from the i-th on are renumbered, and none of them is shut; the others are as they were
pub record DepsFrom (n : DN.Nest) (ys : List DE.Dependence) (i : ℕ) : Type 0 where
  pub within : i ≤ n.many
  pub long : length ys ≡ length n.deps
  pub ahead : (j : ℕ) → j < i → dep_at ys j ≡ dep_at n.deps j
  pub passed
      : (j : ℕ) → i ≤ j → j < n.many
      → dep_in (dep_at ys j) ≡ reduced_dep (nest_in n).barred (top_of n) (dep_in (dep_at n.deps j))
  pub opened : some_shut (nest_in n).points (nest_in n).barred (drop i (nest_in n).deps) ≡ false

pub deps_start : (n : DN.Nest) → IsCounted n → DepsFrom n n.deps n.many
deps_start n counted =
    let l : length (nest_in n).deps ≤ n.many = omega (arith, counted.many_is) in
    let z : drop n.many (nest_in n).deps ≡ [] = drop_of_length-le (nest_in n).deps l in
    record {
      within = omega arith;
      long = refl;
      ahead = λ j h. refl;
      passed = λ j a b. absurd (omega arith);
      opened = ap (some_shut (nest_in n).points (nest_in n).barred) z;
    }

-- ---- lists of dependences

-- renumbered one by one is renumbered as a list
deps_by
    : (bs : List ℕ) (m k : ℕ) (xs ys : List DE.Dependence)
    → k ≤ length xs
    → length ys ≡ length xs
    → ((j : ℕ) → j < k → dep_in (dep_at ys j) ≡ reduced_dep bs m (dep_in (dep_at xs j)))
    → deps_in k ys ≡ reduced_deps bs m (deps_in k xs)
deps_by bs m zero xs ys l e h = refl
deps_by bs m (suc k) [] ys l e h = absurd (omega arith)
deps_by bs m (suc k) (x ∷ xs) [] l e h = absurd (omega arith)
deps_by bs m (suc k) (x ∷ xs) (y ∷ ys) l e h =
    let a : dep_in y ≡ reduced_dep bs m (dep_in x) = h 0 (omega arith) in
    let b = deps_by bs m k xs ys (omega arith) (omega arith) (λ j z. h (suc j) (omega arith)) in
    cc (a, b)

module _ (ps bs : List ℕ) (e : Dep) (es : List Dep) where
  -- each of a list of dependences is one
  dep_there : (ds : List Dep) (i : ℕ) → are_deps ps ds ≡ true → drop i ds ≡ e ∷ es → is_dep ps e ≡ true
  dep_there [] zero h q = let z : ◌≡◌ {A = ℕ} 0 1 = cc q in absurd (omega arith)
  dep_there [] (suc i) h q = let z : ◌≡◌ {A = ℕ} 0 1 = cc q in absurd (omega arith)
  dep_there (x ∷ xs) zero h q =
      let z : x ≡ e = cc q in
      rw z at (and_true (is_dep ps x) (are_deps ps xs) h).0
  dep_there (x ∷ xs) (suc i) h q = dep_there xs i (and_true (is_dep ps x) (are_deps ps xs) h).1 q

  -- one that is shut is some
  shut_there : (ds : List Dep) (i : ℕ) → drop i ds ≡ e ∷ es → is_shut ps bs e ≡ true → some_shut ps bs ds ≡ true
  shut_there [] zero q h = let z : ◌≡◌ {A = ℕ} 0 1 = cc q in absurd (omega arith)
  shut_there [] (suc i) q h = let z : ◌≡◌ {A = ℕ} 0 1 = cc q in absurd (omega arith)
  shut_there (x ∷ xs) zero q h =
      let z : x ≡ e = cc q in
      let y : is_shut ps bs x ≡ true = rw z h in
      or_left (some_shut ps bs xs) y
  shut_there (x ∷ xs) (suc i) q h = or_right (is_shut ps bs x) (shut_there xs i q h)

-- a nest with nothing barred or flagged, part by part
same_nest
    : (ps qs : List ℕ) (ds es : List Dep) (bs fs : List ℕ)
    → ps ≡ qs
    → ds ≡ es
    → bs ≡ []
    → fs ≡ []
    → ◌≡◌ {A = Nest} (record { points = ps; deps = ds; barred = bs; flagged = fs }) (nest qs es)
same_nest ps qs ds es bs fs p d b f = rw (p, d, b, f) refl

-- after the last turn
pub reduce_done
    : (n ring : DN.Nest) (i : ℕ)
    → IsCounted n
    → i ≤ 0
    → IsRing n ring
    → DepsFrom n ring.deps i
    → ReduceSays (nest_in n) (Some ring)
reduce_done n ring i counted l r p =
    let z : i ≡ 0 = omega arith in
    let bs = (nest_in n).barred in
    let open_all : is_blocked (nest_in n) ≡ false = rw z at p.opened in
    let k : ring.many ≡ n.many = r.same_many in
    let many : n.many ≤ length n.deps = counted_many n counted in
    let deps : deps_in ring.many ring.deps ≡ reduced_deps bs (top_of n) (nest_in n).deps =
    rw k
    (deps_by bs (top_of n) n.many n.deps ring.deps many p.long (λ j h. p.passed j (omega arith) h)) in
    let bars : take ring.bars ring.barred ≡ [] = rw r.no_bars refl in
    let flags : take ring.flags ring.flagged ≡ [] = rw r.no_flags refl in
    record {
      blocked_is = sym open_all;
      ring_says =
          record {
            ring_is =
                rw open_all
                (same_nest (nest_in ring).points (ring_points (top_of n)) (nest_in ring).deps
                (reduced_deps bs (top_of n) (nest_in n).deps) (nest_in ring).barred (nest_in ring).flagged r.points_are
                deps bars flags);
            counted =
                record {
                  count_is = r.count_is;
                  count_fits = r.count_fits;
                  many_is = sym (deps_in_length ring.many ring.deps (omega (arith, p.long)));
                  many_fits = omega (arith, counted.many_fits);
                  bars_is = rw bars r.no_bars;
                  bars_fit = omega (arith, r.no_bars);
                  flags_is = rw flags r.no_flags;
                  flags_fit = omega (arith, r.no_flags);
                };
          };
    }

-- ---- a turn

-- what a turn has: the nest of one loop, the table of ranks, and the dependences so far
pub record Turn (n : DN.Nest) (ranks : List ℕ) (ys : List DE.Dependence) (i : ℕ) : Type 0 where
  pub counted : IsCounted n
  pub valid : is_valid (nest_in n) ≡ true
  pub one : one_loop (nest_in n).points ≡ true
  pub has : HasRanks (nest_in n).barred ranks
  pub some : 0 < i
  pub so_far : DepsFrom n ys i

-- a dependence with another source, with another target
abbrev pub from_point : DE.Dependence → ℕ → DE.Dependence
from_point e s = record { kind = e.kind; d = e.d; s = s; t = e.t }

abbrev pub to_point : DE.Dependence → ℕ → DE.Dependence
to_point e t = record { kind = e.kind; d = e.d; s = e.s; t = t }

module _ {n : DN.Nest} {ranks : List ℕ} {ys : List DE.Dependence} {i : ℕ} (w : Turn n ranks ys i) where
  abbrev ps : List ℕ
  ps = (nest_in n).points

  abbrev bs : List ℕ
  bs = (nest_in n).barred

  shape : is_shape ps ≡ true
  shape = (valid_is (nest_in n) w.valid).shape

  abbrev p : DepsFrom n ys i
  p = w.so_far

  -- the dependence of the turn
  abbrev its : Dep
  its = dep_in (dep_at n.deps (i - 1))

  turn_there : (0 < i) × (i ≤ n.many)
  turn_there = (w.some, p.within)

  here : drop (i - 1) (nest_in n).deps ≡ its ∷ drop i (nest_in n).deps
  here =
      let z : suc (i - 1) ≡ i = omega (arith, turn_there) in
      let l : i - 1 < n.many = omega (arith, turn_there) in
      rw z at (deps_in_at n.many n.deps (i - 1) no_dependence l (counted_many n w.counted))

  is-dep : is_dep ps its ≡ true
  is-dep =
      dep_there ps bs its (drop i (nest_in n).deps) (nest_in n).deps (i - 1)
      (valid_is (nest_in n) w.valid).all-deps
      here

  fits : Fits ps its
  fits = dep_fits ps its is-dep

  there : i - 1 < length ys
  there = omega (arith, turn_there, p.long, counted_many n w.counted)

  -- it is renumbered and not shut
  deps-on
      : (x : DE.Dependence)
      → dep_in x ≡ reduced_dep bs (top_of n) its
      → is_shut ps bs its ≡ false
      → DepsFrom n (set ys (i - 1) x) (i - 1)
  deps-on x e h =
      record {
        within = omega (arith, turn_there);
        long = length-set ys (i - 1) x ∙ p.long;
        ahead = λ j l.
            get_or-set_other ys (i - 1) j x no_dependence (λ z. omega arith) ∙ p.ahead j (omega (arith, turn_there));
        passed = λ j a b.
            ⊎_elim
            (λ (z : j ≡ i - 1). rw z (ap dep_in (get_or-set_same ys (i - 1) x no_dependence there) ∙ e))
            (λ (z : j ≡ i - 1 → ⊥).
            ap dep_in (get_or-set_other ys (i - 1) j x no_dependence z) ∙ p.passed j (omega (arith, z)) b)
            (eq_or j (i - 1));
        opened =
            ap (some_shut ps bs) here ∙
            ap (λ (b : Bool). b || some_shut ps bs (drop i (nest_in n).deps)) h ∙
            p.opened;
      }

  -- ---- the ranks of its points, and the greatest, as the table has them

  points_within : (its.s < length (nest_in n).points) × (its.t < length (nest_in n).points)
  points_within = go fits
    where
      go : Fits ps its → (its.s < length (nest_in n).points) × (its.t < length (nest_in n).points)
      go (inl line) = (omega (arith, line.forward, line.target_there), line.target_there)
      go (inr back) =
          let e = end_there ps shape its.d back.loop in
          (omega (arith, back.source_before), omega (arith, back.target_before))

  few : length (nest_in n).points ≤ POINTS
  few = (valid_is (nest_in n) w.valid).few_points

  pub source_fits : (dep_at n.deps (i - 1)).s < POINTS
  source_fits = omega (arith, points_within.0, few)

  pub target_fits : (dep_at n.deps (i - 1)).t < POINTS
  target_fits = omega (arith, points_within.1, few)

  abbrev from : ℕ
  from = rank bs its.s

  abbrev to : ℕ
  to = rank bs its.t

  from_is : at ranks its.s ≡ from
  from_is = w.has its.s source_fits

  to_is : at ranks its.t ≡ to
  to_is = w.has its.t target_fits

  greatest : at ranks (n.count - 1) ≡ top_of n
  greatest = top_is n w.counted w.valid w.one ranks w.has

  from_fits : from ≤ top_of n
  from_fits = rank_monotone bs its.s (length ps - 1) (omega (arith, points_within.0))

  -- ---- the ways through the turn

  -- what the code tests
  abbrev stays_here : Bool
  stays_here = stays its.kind (at ranks (n.count - 1)) (at ranks its.s) (at ranks its.t)

  abbrev shut_here : Bool
  shut_here = is_shut_at its.kind (at ranks (n.count - 1)) (at ranks its.s) (at ranks its.t)

  stays_is : stays_here ≡ stays its.kind (top_of n) from to
  stays_is = rw (greatest, from_is, to_is) refl

  shut_is : shut_here ≡ is_shut ps bs its
  shut_is = rw (greatest, from_is, to_is) (sym (shut_ranked ps bs its shape w.one fits))

  pub reduce_kept
      : stays_here ≡ true
      → let ys' = set ys (i - 1) (from_point (dep_at ys (i - 1)) (at ranks its.s)) in
      DepsFrom n (set ys' (i - 1) (to_point (dep_at ys' (i - 1)) (at ranks its.t))) (i - 1)
  reduce_kept h =
      let s = at ranks its.s in
      let t = at ranks its.t in
      let source = from_point (dep_at ys (i - 1)) s in
      let both = to_point source t in
      let h' = sym stays_is ∙ h in
      let first : dep_at (set ys (i - 1) source) (i - 1) ≡ source =
      get_or-set_same ys (i - 1) source no_dependence there in
      let twice : set (set ys (i - 1) source) (i - 1) (to_point (dep_at (set ys (i - 1) source) (i - 1)) t) ≡
      set ys (i - 1) both =
      ap (λ (y : DE.Dependence). set (set ys (i - 1) source) (i - 1) (to_point y t)) first ∙
      set-set ys (i - 1) source both in
      let old : dep_in both ≡ dep its.kind its.d s t =
      ap (λ (y : DE.Dependence). dep y.kind y.d s t) (p.ahead (i - 1) (omega (arith, turn_there))) in
      let new : dep its.kind its.d s t ≡ dep its.kind 0 from to =
      rw (first_loop ps its w.one is-dep, from_is, to_is) refl in
      subst (λ (zs : List DE.Dependence). DepsFrom n zs (i - 1)) (sym twice)
      (deps-on both
      (old ∙ new ∙ sym (kept_dep ps bs its (top_of n) fits h'))
      (shut_ranked ps bs its shape w.one fits ∙ kept_open ps bs its (top_of n) fits h'))

  pub reduce_stretch
      : stays_here ≡ false
      → shut_here ≡ false
      → (x : DE.Dependence)
      → dep_in x ≡ stretch (at ranks (n.count - 1)) (at ranks its.s) (at ranks its.t)
      → DepsFrom n (set ys (i - 1) x) (i - 1)
  reduce_stretch h k x e =
      let k' = sym shut_is ∙ k in
      let ranked : stretch (at ranks (n.count - 1)) (at ranks its.s) (at ranks its.t) ≡ stretch (top_of n) from to =
      rw (greatest, from_is, to_is) refl in
      deps-on x
      (e ∙
      ranked ∙
      sym
      (stretch_dep ps bs its (top_of n) fits from_fits (sym stays_is ∙ h)
      (sym (shut_ranked ps bs its shape w.one fits) ∙ k')))
      k'

  pub reduce_shut : shut_here ≡ true → ReduceSays (nest_in n) None
  reduce_shut h =
      let shut : is_blocked (nest_in n) ≡ true =
      shut_there ps bs its (drop i (nest_in n).deps) (nest_in n).deps (i - 1) here (sym shut_is ∙ h) in
      record { blocked_is = sym shut; ring_says = tt }
