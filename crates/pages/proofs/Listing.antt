-- Lent lists on the page of the numbers: the first faulty record, and the first that the key doesn't cut, are those of
-- the project.
-- Main statements: `is_list`, `one_list`, `is_uncut`.
use mathlib.Core.Path.{◌≡◌, refl, sym, ◌∙◌, ap, subst}
use mathlib.Core.Bool.{Bool, true, false, ◌&&◌, ◌||◌, not}
use mathlib.Core.List.{List, [], ◌∷◌}
use mathlib.Core.Logic.{◌⊎◌, inl, inr, ⊎_elim}
use Prim.Native.Nat.{ℕ, zero, suc, ◌+◌, ◌≤◌, ◌<◌}
use native.Mathlib.Omega.{arith}
use lib.Dec.{eqb, ltb}
use borrow.Author.Tests.{eqb-true, eqb-false, ltb-true}
use Rattle.laws.specs.Choice.{pick, when}
use Rattle.laws.proofs.Tests.{never_both, and_true, or-true, le_or, eq_or}
use Rattle.laws.proofs.Choices.{first_zero, unless_zero}
use Rattle.paper_nests.specs.declared.Dependence as DE
use Rattle.paper_nests.specs.Kinds.{INDEPENDENT, CARRIED}
use Rattle.paper_nests.specs.Loops.{is_do, in_loop}
use Rattle.paper_nests.specs.Valid.{is_shape, names_points, runs_right, dep_fault}
use Rattle.paper_nests.specs.Stored.{dep_in}
use Rattle.paper_nests.proofs.Deps.{Fits, target_and_loop}
use Rattle.paper_nests.proofs.Loops.{inside_lies}
use Rattle.paper_placements.specs.Placements.{cuts}
use Rattle.desk.specs.Desks.{Fault, fault, record_fault, list_fault, list_uncut}
use Rattle.call_list.specs.Lists.{all_deps}
use Rattle.pages.specs.Demands.{At, In, Cut}
use Rattle.pages.specs.Numbers.{Lowest, RecordBreaks, ListNumber, FirstUncut}
use Rattle.pages.proofs.Lists.{at_in, at_is}
use Rattle.pages.proofs.Placements.{is-cut, cut_is}
use Rattle.pages.proofs.Rules.{is_either}
use Rattle.pages.proofs.Misfits.{record_decided}
use Rattle.pages.proofs.Chains.{Decides, is_lowest, none_wrong}

module _ (ps : List ℕ) (shape : is_shape ps ≡ true) where
  -- the first faulty record of a list, with its place counted from k
  data FirstFault (xs : List DE.Dependence) (k : ℕ) : Fault → Type 0 where
    none : ((x : DE.Dependence) (n : ℕ) → In x xs → RecordBreaks ps x n → ⊥) → FirstFault xs k (fault 0 0)
    some
        : (n i : ℕ) (x : DE.Dependence) → At xs i x → Lowest (RecordBreaks ps x) n
        → ((j : ℕ) (y : DE.Dependence) (m : ℕ) → j < i → At xs j y → RecordBreaks ps y m → ⊥)
        → FirstFault xs k (fault n (k + i))

  behind
      : (x : DE.Dependence) (xs : List DE.Dependence) (k : ℕ) (f : Fault) → ((n : ℕ) → RecordBreaks ps x n → ⊥)
      → FirstFault xs (suc k) f → FirstFault (x ∷ xs) k f
  behind x xs k f fine (FirstFault.none all) = FirstFault.none go
    where
      go : (y : DE.Dependence) (n : ℕ) → In y (x ∷ xs) → RecordBreaks ps y n → ⊥
      go y n (zero, e) b = fine n (subst (λ (z : DE.Dependence). RecordBreaks ps z n) (sym e) b)
      go y n (suc i, a) b = all y n (i, a) b
  behind x xs k f fine (FirstFault.some n i y a low earlier) =
      let e : k + suc i ≡ suc k + i = omega arith in
      subst (λ (j : ℕ). FirstFault (x ∷ xs) k (fault n j)) e (FirstFault.some n (suc i) y a low go)
    where
      go : (j : ℕ) (z : DE.Dependence) (m : ℕ) → j < suc i → At (x ∷ xs) j z → RecordBreaks ps z m → ⊥
      go zero z m l q b = fine m (subst (λ (v : DE.Dependence). RecordBreaks ps v m) (sym q) b)
      go (suc j) z m l q b = earlier j z m (omega arith) q b

  first_fault : (xs : List DE.Dependence) (k : ℕ) → FirstFault xs k (list_fault k ps (all_deps xs))
  first_fault [] k = FirstFault.none (λ x n i b. absurd i.1)
  first_fault (x ∷ xs) k = go (eqb (record_fault ps (dep_in x)) 0) refl (first_fault xs (suc k))
    where
      d : Decides (RecordBreaks ps x) (record_fault ps (dep_in x))
      d = record_decided ps shape x

      go
          : (t : Bool) → eqb (record_fault ps (dep_in x)) 0 ≡ t
          → FirstFault xs (suc k) (list_fault (suc k) ps (all_deps xs))
          → FirstFault (x ∷ xs) k
          (pick t (list_fault (suc k) ps (all_deps xs)) (fault (record_fault ps (dep_in x)) k))
      go true e r =
          behind x xs k (list_fault (suc k) ps (all_deps xs))
          (none_wrong d (eqb-true (record_fault ps (dep_in x)) 0 e)) r
      go false e r =
          let z : k + 0 ≡ k = omega arith in
          let low = is_lowest d (omega (arith, eqb-false (record_fault ps (dep_in x)) 0 e)) in
          subst (λ (j : ℕ). FirstFault (x ∷ xs) k (fault (record_fault ps (dep_in x)) j)) z
          (FirstFault.some (record_fault ps (dep_in x)) 0 x refl low (λ j y m l. absurd (omega arith)))

  pub is_list
      : (xs : List DE.Dependence)
      → ListNumber ps xs (list_fault 1 ps (all_deps xs)).number (list_fault 1 ps (all_deps xs)).place
  is_list xs = go (list_fault 1 ps (all_deps xs)) (first_fault xs 1)
    where
      go : (f : Fault) → FirstFault xs 1 f → ListNumber ps xs f.number f.place
      go f (FirstFault.none all) = ListNumber.accepted all
      go f (FirstFault.some n i x a low earlier) =
          let e : suc i ≡ 1 + i = omega arith in
          subst (λ (j : ℕ). ListNumber ps xs n j) e (ListNumber.faulty x a low earlier)

  -- ---- the first that is not cut

  fits : (x : DE.Dependence) → record_fault ps (dep_in x) ≡ 0 → Fits ps (dep_in x)
  fits x z =
      let known = eqb x.kind INDEPENDENT || eqb x.kind CARRIED in
      let a = first_zero (when (not known) 2) (dep_fault ps (dep_in x)) z in
      let b = first_zero (when (not (names_points ps (dep_in x))) 6) (when (not (runs_right ps (dep_in x))) 7) a.1 in
      go (unless_zero (names_points ps (dep_in x)) 5 b.0) (unless_zero (runs_right ps (dep_in x)) 6 b.1)
      (or-true (eqb x.kind INDEPENDENT) (eqb x.kind CARRIED) (unless_zero known 1 a.0))
    where
      go
          : names_points ps (dep_in x) ≡ true → runs_right ps (dep_in x) ≡ true
          → (eqb x.kind INDEPENDENT ≡ true) ⊎ (eqb x.kind CARRIED ≡ true) → Fits ps (dep_in x)
      go names right (inl k) =
          let e = eqb-true x.kind 17 k in
          let f : ltb x.s x.t ≡ true = rw e at right in
          let t = is_either ps x.t 3 2 (target_and_loop ps (dep_in x) names right).0 in
          inl (record {
            kind_is = e;
            forward = ltb-true x.s x.t f;
            target_there = ⊎_elim (at_in ps x.t 3) (at_in ps x.t 2) t;
          })
      go names right (inr k) =
          let e = eqb-true x.kind 18 k in
          let f : (in_loop ps x.d x.s && in_loop ps x.d x.t) ≡ true = rw e at right in
          let g = and_true (in_loop ps x.d x.s) (in_loop ps x.d x.t) f in
          let s = inside_lies ps x.d x.s g.0 in
          let t = inside_lies ps x.d x.t g.1 in
          let carrier : (not (eqb x.kind CARRIED) || is_do ps x.d) ≡ true =
          (target_and_loop ps (dep_in x) names right).1 in
          let loop : is_do ps x.d ≡ true = rw e at carrier in
          inr (record {
            kind_is = e;
            loop = loop;
            source_after = s.0;
            source_before = s.1;
            target_after = t.0;
            target_before = t.1;
          })

  data UncutFrom (key : List ℕ) (xs : List DE.Dependence) (k : ℕ) : ℕ → Type 0 where
    none : ((x : DE.Dependence) → In x xs → Cut ps x key) → UncutFrom key xs k 0
    some
        : (i : ℕ) (x : DE.Dependence) → At xs i x → (Cut ps x key → ⊥)
        → ((j : ℕ) (y : DE.Dependence) → j < i → At xs j y → Cut ps y key) → UncutFrom key xs k (k + i)

  uncut_behind
      : (key : List ℕ) (x : DE.Dependence) (xs : List DE.Dependence) (k v : ℕ) → Cut ps x key
      → UncutFrom key xs (suc k) v → UncutFrom key (x ∷ xs) k v
  uncut_behind key x xs k v c (UncutFrom.none all) = UncutFrom.none go
    where
      go : (y : DE.Dependence) → In y (x ∷ xs) → Cut ps y key
      go y (zero, e) = subst (λ (z : DE.Dependence). Cut ps z key) e c
      go y (suc i, a) = all y (i, a)
  uncut_behind key x xs k v c (UncutFrom.some i y a n lower) =
      let e : k + suc i ≡ suc k + i = omega arith in
      subst (λ (j : ℕ). UncutFrom key (x ∷ xs) k j) e (UncutFrom.some (suc i) y a n go)
    where
      go : (j : ℕ) (z : DE.Dependence) → j < suc i → At (x ∷ xs) j z → Cut ps z key
      go zero z l q = subst (λ (v : DE.Dependence). Cut ps v key) q c
      go (suc j) z l q = lower j z (omega arith) q

  uncut-from
      : (key : List ℕ) (xs : List DE.Dependence) (k : ℕ)
      → ((x : DE.Dependence) → In x xs → record_fault ps (dep_in x) ≡ 0)
      → UncutFrom key xs k (list_uncut k ps (all_deps xs) key)
  uncut-from key [] k fine = UncutFrom.none (λ x i. absurd i.1)
  uncut-from key (x ∷ xs) k fine =
      go (cuts ps (dep_in x) key) refl (uncut-from key xs (suc k) (λ y i. fine y (suc i.0, i.1)))
    where
      go
          : (t : Bool) → cuts ps (dep_in x) key ≡ t
          → UncutFrom key xs (suc k) (list_uncut (suc k) ps (all_deps xs) key)
          → UncutFrom key (x ∷ xs) k (pick t (list_uncut (suc k) ps (all_deps xs) key) k)
      go true e r =
          uncut_behind key x xs k (list_uncut (suc k) ps (all_deps xs) key)
          (is-cut ps shape x key (fits x (fine x (0, refl))) e) r
      go false e r =
          let z : k + 0 ≡ k = omega arith in
          subst (λ (j : ℕ). UncutFrom key (x ∷ xs) k j) z
          (UncutFrom.some 0 x refl (λ c. never_both (cut_is ps shape x key c) e) (λ j y l. absurd (omega arith)))

  -- a list with number 0 has no fault
  all_fine
      : (xs : List DE.Dependence) (k : ℕ) → (list_fault k ps (all_deps xs)).number ≡ 0 → (i : ℕ) (x : DE.Dependence)
      → At xs i x → record_fault ps (dep_in x) ≡ 0
  all_fine [] k z i x a = absurd a
  all_fine (y ∷ ys) k z i x a = go (eqb (record_fault ps (dep_in y)) 0) refl z i a (all_fine ys (suc k))
    where
      go
          : (t : Bool) → eqb (record_fault ps (dep_in y)) 0 ≡ t
          → (pick t (list_fault (suc k) ps (all_deps ys)) (fault (record_fault ps (dep_in y)) k)).number ≡ 0
          → (i : ℕ) → At (y ∷ ys) i x
          → ((list_fault (suc k) ps (all_deps ys)).number ≡ 0 → (i : ℕ) (x : DE.Dependence) → At ys i x
          → record_fault ps (dep_in x) ≡ 0)
          → record_fault ps (dep_in x) ≡ 0
      go true e h zero q r =
          ap (λ (v : DE.Dependence). record_fault ps (dep_in v)) (sym q) ∙ eqb-true (record_fault ps (dep_in y)) 0 e
      go true e h (suc i) q r = r h i x q
      go false e h i q r = absurd (eqb-false (record_fault ps (dep_in y)) 0 e h)

  pub is_uncut
      : (key : List ℕ) (xs : List DE.Dependence) → (list_fault 1 ps (all_deps xs)).number ≡ 0
      → FirstUncut ps key xs (list_uncut 1 ps (all_deps xs) key)
  is_uncut key xs z =
      go (list_uncut 1 ps (all_deps xs) key) (uncut-from key xs 1 (λ x i. all_fine xs 1 z i.0 x i.1))
    where
      go : (v : ℕ) → UncutFrom key xs 1 v → FirstUncut ps key xs v
      go v (UncutFrom.none all) = FirstUncut.none all
      go v (UncutFrom.some i x a n lower) =
          let e : suc i ≡ 1 + i = omega arith in
          subst (FirstUncut ps key xs) e (FirstUncut.place x a n lower)

-- ---- no list has two numbers

at_one : {A : Type 0} → (xs : List A) (i : ℕ) (x y : A) → At xs i x → At xs i y → x ≡ y
at_one xs i x y a b = sym (at_is xs i x x a) ∙ at_is xs i y x b

pub one_list
    : (ps : List ℕ) (xs : List DE.Dependence) (m i n k : ℕ) → ListNumber ps xs m i → ListNumber ps xs n k
    → (m ≡ n) × (i ≡ k)
one_list ps xs m i n k (ListNumber.accepted a) (ListNumber.accepted b) = (refl, refl)
one_list ps xs m i n k (ListNumber.accepted a) (ListNumber.faulty {i = j} x p low e) =
    absurd (a x n (j, p) low.wrong)
one_list ps xs m i n k (ListNumber.faulty {i = j} x p low e) (ListNumber.accepted b) =
    absurd (b x m (j, p) low.wrong)
one_list ps xs m i n k (ListNumber.faulty {i = j} x p a e) (ListNumber.faulty {i = h} y q b f) =
    ⊎_elim
    (λ (z : j ≡ h). same z)
    (λ (z : j ≡ h → ⊥).
    ⊎_elim
    (λ (l : h ≤ j). absurd (e h y n (omega (arith, z)) q b.wrong))
    (λ (l : j < h). absurd (f j x m l p a.wrong))
    (le_or h j))
    (eq_or j h)
  where
    same : j ≡ h → (m ≡ n) × (suc j ≡ suc h)
    same z =
        let w : x ≡ y = at_one xs j x y p (subst (λ (v : ℕ). At xs v y) (sym z) q) in
        let u = a.least n (subst (λ (v : DE.Dependence). RecordBreaks ps v n) (sym w) b.wrong) in
        let v = b.least m (subst (λ (v : DE.Dependence). RecordBreaks ps v m) w a.wrong) in
        (omega arith, ap suc z)
