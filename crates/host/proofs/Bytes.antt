-- The list taken record by record from its bytes: what holds before the byte at `at`, and what a turn of the loop
-- keeps.
-- Main statements: `Taken`; `taken_none`, `taken_one`, `taken_left`, `taken_all`; `whole_records`, `left_over`.
use mathlib.Core.Path.{◌≡◌, refl, sym, ◌∙◌, ap}
use mathlib.Core.Bool.{false}
use mathlib.Core.List.{List, [], ◌∷◌, ◌++◌}
use Prim.Native.Nat.{ℕ, zero, suc, ◌+◌, ◌≤◌, ◌<◌}
use native.Mathlib.Omega.{arith}
use lib.Dec.{eqb}
use lib.ListN.{length, drop, get_or, length-drop}
use lib.Seq.{drop-cons}
use borrow.Author.Tests.{ne_eqb}
use Rattle.paper_nests.specs.Nests.{Dep, dep}
use Rattle.desk.specs.declared.Answer as DA
use Rattle.desk.specs.Desks.{Desk, record_fault, fault, list_fault}
use Rattle.call_list.specs.Lists.{begun, step_of, steps_from}
use Rattle.host.specs.Records.{no_record, records_of, bytes_of, WholeRecords, LeftOver}

-- a is the answer after i records, which lie before the byte at `at`: the rest makes of it what the whole list makes of
-- nothing
pub record Taken (x : Desk) (bs : List ℕ) (i at : ℕ) (a : DA.Answer) : Type 0 where
  pub rest : steps_from x i a (records_of (drop at bs)) ≡ steps_from x 0 (begun x) (records_of bs)
  pub in_bytes : at ≤ length bs
  pub fits : i ≤ at

pub taken_none : (x : Desk) (bs : List ℕ) (a : DA.Answer) → a ≡ begun x → Taken x bs 0 0 a
taken_none x bs a e = record { rest = rw e; in_bytes = omega arith; fits = omega arith }

-- the four bytes from `at` on
four
    : (bs : List ℕ) (at : ℕ)
    → at + 4 ≤ length bs
    → drop at bs ≡
    get_or bs at 0 ∷ get_or bs (at + 1) 0 ∷ get_or bs (at + 2) 0 ∷ get_or bs (at + 3) 0 ∷ drop (at + 4) bs
four bs at h =
    let b : at + 1 ≡ suc at = omega arith in
    let c : at + 2 ≡ suc (suc at) = omega arith in
    let d : at + 3 ≡ suc (suc (suc at)) = omega arith in
    let e : at + 4 ≡ suc (suc (suc (suc at))) = omega arith in
    rw (b, c, d, e)
    (drop-cons bs at 0 (omega arith)
    ∙ ap (λ (l : List ℕ). get_or bs at 0 ∷ l) (drop-cons bs (suc at) 0 (omega arith)
    ∙ ap (λ (l : List ℕ). get_or bs (suc at) 0 ∷ l) (drop-cons bs (suc (suc at)) 0 (omega arith)
    ∙ ap (λ (l : List ℕ). get_or bs (suc (suc at)) 0 ∷ l) (drop-cons bs (suc (suc (suc at))) 0 (omega arith)))))

-- fewer than four bytes are no record
few : (bs : List ℕ) → 0 < length bs → length bs < 4 → records_of bs ≡ no_record ∷ []
unfolding records_of
few [] h k = absurd (omega arith)
few (a ∷ []) h k = refl
few (a ∷ b ∷ []) h k = refl
few (a ∷ b ∷ c ∷ []) h k = refl
few (a ∷ b ∷ c ∷ d ∷ bs) h k = absurd (omega arith)

none : (bs : List ℕ) → length bs ≡ 0 → records_of bs ≡ []
unfolding records_of
none [] h = refl
none (b ∷ bs) h = absurd (omega arith)

module _ (x : Desk) (bs : List ℕ) (i at : ℕ) (a : DA.Answer) (p : Taken x bs i at a) where
  pub taken_one
      : (b : DA.Answer)
      → at + 4 ≤ length bs
      → b ≡ step_of x a (dep (get_or bs at 0) (get_or bs (at + 1) 0) (get_or bs (at + 2) 0) (get_or bs (at + 3) 0)) i
      → Taken x bs (i + 1) (at + 4) b
  unfolding steps_from records_of
  taken_one b h e =
      let y : i + 1 ≡ suc i = omega arith in
      let f : steps_from x i a (records_of (drop at bs)) ≡ steps_from x (suc i) b (records_of (drop (at + 4) bs)) =
      rw (four bs at h, e) in
      let q = p.fits in
      record { rest = rw y (sym f ∙ p.rest); in_bytes = h; fits = omega arith }

  pub taken_left
      : (b : DA.Answer)
      → at < length bs
      → length bs < at + 4
      → b ≡ step_of x a no_record i
      → b ≡ steps_from x 0 (begun x) (records_of bs)
  unfolding steps_from
  taken_left b h k e =
      let l = length-drop at bs in
      let f : steps_from x i a (records_of (drop at bs)) ≡ b =
      rw (few (drop at bs) (omega (arith, l)) (omega (arith, l)), e) in
      sym f ∙ p.rest

  pub taken_all : length bs ≤ at → a ≡ steps_from x 0 (begun x) (records_of bs)
  unfolding steps_from
  taken_all h =
      let l = length-drop at bs in
      let f : steps_from x i a (records_of (drop at bs)) ≡ a = rw (none (drop at bs) (omega (arith, l))) in
      sym f ∙ p.rest

pub whole_records : WholeRecords
unfolding records_of
whole_records [] = refl
whole_records (e ∷ es) = ap (λ (l : List Dep). e ∷ l) (whole_records es)

-- bytes left over are one more record
one_more
    : (es : List Dep) (bs : List ℕ)
    → 0 < length bs
    → length bs < 4
    → records_of (bytes_of es ++ bs) ≡ es ++ (no_record ∷ [])
unfolding records_of
one_more [] bs h k = few bs h k
one_more (e ∷ es) bs h k = ap (λ (l : List Dep). e ∷ l) (one_more es bs h k)

last_fault
    : (j : ℕ) (ps : List ℕ) (es : List Dep)
    → (list_fault j ps es).number ≡ 0
    → list_fault j ps (es ++ (no_record ∷ [])) ≡ fault 2 (length es + j)
last_fault j ps [] h = let z : 0 + j ≡ j = omega arith in rw z
last_fault j ps (e ∷ es) h = go (record_fault ps e) refl (last_fault (suc j) ps es)
  where
    go
        : (r : ℕ)
        → record_fault ps e ≡ r
        → ((list_fault (suc j) ps es).number ≡ 0
        → list_fault (suc j) ps (es ++ (no_record ∷ [])) ≡ fault 2 (length es + suc j))
        → list_fault j ps (e ∷ (es ++ (no_record ∷ []))) ≡ fault 2 (suc (length es) + j)
    go zero q ih =
        let y : length es + suc j ≡ suc (length es) + j = omega arith in
        let g : (list_fault (suc j) ps es).number ≡ 0 = rw q at h in
        rw (q, ← y) (ih g)
    go (suc r) q ih =
        let z : eqb (suc r) 0 ≡ false = ne_eqb (suc r) 0 (λ y. omega arith) in
        let g : suc r ≡ 0 = rw (q, z) at h in
        absurd (omega (arith, g))

pub left_over : LeftOver
left_over ps es bs n h k = rw (one_more es bs h k) (last_fault 1 ps es n)
