-- The key keeps the page of request 6.
-- Main statements: `is_key`, `one_first`, `first_kept`.
use mathlib.Core.Path.{◌≡◌, refl, sym, ◌∙◌, ap, subst}
use mathlib.Core.Bool.{Bool, true, false}
use mathlib.Core.List.{List, [], ◌∷◌}
use Prim.Native.Nat.{ℕ}
use native.Mathlib.Omega.{arith}
use lib.Dec.{eqb, ltb}
use lib.ListN.{length}
use borrow.Author.Tests.{eqb-true, ltb-true}
use Rattle.laws.specs.Choice.{pick}
use Rattle.laws.proofs.Tests.{never}
use Rattle.paper_nests.specs.Nests.{Nest}
use Rattle.paper_nests.specs.Loops.{end_of}
use Rattle.paper_nests.specs.Valid.{is_valid}
use Rattle.paper_nests.specs.Stored.{nest_in}
use Rattle.paper_nests.proofs.Loops.{inside_by, end-after}
use Rattle.paper_placements.specs.Placements.{are_gaps, is_correct}
use Rattle.paper_order.specs.LoopOrder.{as_good}
use Rattle.paper_order.specs.Keys.{IsKey}
use Rattle.paper_placements.proofs.Cuts.{correct_gaps}
use Rattle.paper_order.proofs.LoopOrder.{as_good_intro}
use Rattle.paper_barred.specs.Reduced.{is_blocked}
use Rattle.paper_barred.proofs.Blocked.{correct_open}
use Rattle.plan_theorem.specs.ListOrder.{first_in_order}
use Rattle.plan_theorem.specs.KeyOf.{key_of}
use Rattle.desk.specs.declared.Desk as DD
use Rattle.desk.specs.declared.PlainDesk as OD
use Rattle.desk.specs.Desks.{Desk, IsMade}
use Rattle.desk.specs.Says.{OverSays}
use Rattle.plan_theorem.proofs.KeyLengths.{keys_length}
use Rattle.desk.specs.Since as S
use Rattle.desk.proofs.Made.{since_holds}
use Rattle.desk.proofs.TwoDesks.{made_first}
use Rattle.paper_texts.specs.NestTexts as T
use Rattle.pages.specs.Demands.{Paper, Correct, Best, OldOf, Step, Reached, KeyOn}
use Rattle.pages.proofs.Bodies.{loop_end, loop_do, loop_at}
use Rattle.pages.proofs.Placements.{nest_of, nest_of_paper, count_is, correct_is, is-correct}
use Rattle.pages.proofs.Keys.{shaped, fit, is_same, best-of}
use Rattle.pages.proofs.Desks.{reached_made, since_made, since_is}
use Rattle.pages.proofs.Kept.{paper_on, flags_of, key_same, key_key, right, demands_kept}
use Rattle.pages_requests.specs.FirstKey.{Before, FirstKey}
use Rattle.pages_requests.proofs.Papers.{page_valid, papers_same}

-- what is best on the page is a key of the project's definitions
module _ (p : Paper) (fs : List ℕ) (valid : is_valid (nest_of p fs) ≡ true) (xs : List ℕ) (b : Best p xs) where
  abbrev n : Nest
  n = nest_of p fs

  risen : are_gaps n xs ≡ true
  risen = correct_gaps n xs (correct_is p fs (shaped p fs valid) xs b.correct)

  pub is_key : IsKey n xs
  is_key = record { correct = correct_is p fs (shaped p fs valid) xs b.correct; least = λ ys c. least ys c }
    where
      least : (ys : List ℕ) → is_correct n ys ≡ true → as_good n xs ys ≡ true
      least ys c =
          let shape = shaped p fs valid in
          let rising = correct_gaps n ys c in
          as_good_intro n shape xs ys
          (λ d h s.
          let l = loop_at p.points shape d h in
          let q =
          b.least ys (is-correct p fs shape (fit p fs valid) ys c) d (end_of p.points d) l
          (λ x e k u v.
          is_same n shape xs ys risen rising x e k
          (s x (loop_do p.points x e k)
          (inside_by p.points d x u
          (omega (arith, v, loop_end p.points x e k, end-after p.points shape x (loop_do p.points x e k))))))
          in
          omega (
            arith,
            q.1.1.2,
            count_is p.points shape n refl d (end_of p.points d) 0 q.0 l xs risen q.1.1.0,
            count_is p.points shape n refl d (end_of p.points d) 0 q.1.0 l ys rising q.1.1.1,
          ))

-- list order
pub before : (xs ys : List ℕ) → length xs ≡ length ys → first_in_order xs ys ≡ true → Before xs ys
before [] [] l h = Before.same refl
before [] (y ∷ ys) l h = absurd (omega arith)
before (x ∷ xs) [] l h = never h
before (x ∷ xs) (y ∷ ys) l h = go (eqb x y) refl h (before xs ys (omega arith))
  where
    go
        : (t : Bool) → eqb x y ≡ t → pick t (first_in_order xs ys) (ltb x y) ≡ true
        → (first_in_order xs ys ≡ true → Before xs ys)
        → Before (x ∷ xs) (y ∷ ys)
    go true e k more = subst (λ (z : ℕ). Before (x ∷ xs) (z ∷ ys)) (eqb-true x y e) (Before.on (more k))
    go false e k more = Before.less (ltb-true x y k)

-- no two lists stand before each other: a list before one that is before it, told apart by an equation
one_apart : (xs ys zs : List ℕ) → Before xs ys → Before ys zs → xs ≡ zs → xs ≡ ys
one_apart xs ys zs (Before.same e) b z = e
one_apart xs ys zs (Before.less l) (Before.same e) z = z ∙ sym e
one_apart xs ys zs (Before.less {x = x} l) (Before.less {y = w} k) z = absurd (let q : x ≡ w = cc in omega arith)
one_apart xs ys zs (Before.less {x = x} {y = y} l) (Before.on k) z = absurd (let q : x ≡ y = cc in omega arith)
one_apart xs ys zs (Before.on a) (Before.same e) z = z ∙ sym e
one_apart xs ys zs (Before.on {x = x} a) (Before.less {y = w} l) z = absurd (let q : x ≡ w = cc in omega arith)
one_apart xs ys zs (Before.on {x = x} {xs = us} {ys = vs} a) (Before.on {ys = ws} b) z =
    let q : us ≡ ws = cc in
    ap (λ (l : List ℕ). x ∷ l) (one_apart us vs ws a b q)

one_before : (xs ys : List ℕ) → Before xs ys → Before ys xs → xs ≡ ys
one_before xs ys a b = one_apart xs ys xs a b refl

module _ (d : DD.Desk) (m : IsMade d) (key : List ℕ) (k : KeyOn d key) where
  first_of : (ys : List ℕ) → Best (paper_on d) ys → Before key ys
  first_of ys b =
      let n = nest_of (paper_on d) (flags_of d) in
      let valid = right d m key k in
      let i = is_key (paper_on d) (flags_of d) valid ys b in
      let f =
      (made_first d m k.planned).first ys (subst (λ (x : Nest). IsKey x ys) (sym (nest_of_paper d.nest)) i) in
      before key ys (keys_length n (shaped (paper_on d) (flags_of d) valid) key ys (key_key d m key k) i)
      (ap (λ (x : List ℕ). first_in_order x ys) (key_same d m key k) ∙ f)

  key_of_text : (t : List ℕ) → S.Since t d → key ≡ key_of (T.read_nest t).nest_is
  key_of_text t q = key_same d m key k ∙ m.paper.key_is k.planned ∙ ap key_of (since_holds t d q).nest_is

-- one paper has one key, whatever loops are flagged
pub one_first
    : (d e : DD.Desk) → IsMade d → IsMade e → paper_on d ≡ paper_on e → (j k : List ℕ) → KeyOn d j → KeyOn e k → j ≡ k
one_first d e m n q j k a b =
    one_before j k
    (first_of d m j a k (subst (λ (p : Paper). Best p k) (sym q)
    (best-of (paper_on e) (flags_of e) (right e n k b) k (key_key e n k b))))
    (first_of e n k b j (subst (λ (p : Paper). Best p j) q
    (best-of (paper_on d) (flags_of d) (right d m j a) j (key_key d m j a))))

-- what a desk that goes over holds
over_key
    : (d e : DD.Desk) (old : OD.PlainDesk) (ys : List ℕ) → Reached d → OldOf d old → OverSays old e
    → old.planned ≡ true
    → Correct (paper_on d) ys → (key : List ℕ) × (KeyOn e key × Best (paper_on d) key)
over_key d e old ys r o h p c =
    let m = reached_made d r in
    let loaded = o.with_nest p in
    let valid = page_valid d m loaded in
    let n = nest_of (paper_on d) (flags_of d) in
    let i = correct_is (paper_on d) (flags_of d) (shaped (paper_on d) (flags_of d) valid) ys c in
    let same : nest_in old.nest ≡ n = ap nest_in o.nest_is ∙ nest_of_paper d.nest in
    let unblocked : is_blocked (nest_in old.nest) ≡ false = ap is_blocked same ∙ correct_open n ys i in
    let has : e.planned ≡ true = ap (λ (x : Desk). x.has_key) h.holds ∙ rw (p, unblocked) in
    let after = Reached.step d 0 r (Step.over old o h) in
    let w = reached_made e after in
    let k = demands_kept.has-key e after has in
    let q : nest_in e.nest ≡ n =
    ap (λ (x : Desk). x.nest_is) h.holds ∙ rw (p, unblocked) same in (
      k.0,
      (
        k.1,
        subst (λ (x : Paper). Best x k.0) (papers_same d.nest e.nest (q ∙ sym (nest_of_paper d.nest)))
            (best-of (paper_on e) (flags_of e) (right e w k.0 k.1) k.0 (key_key e w k.0 k.1)),
      ),
    )

pub first_kept : FirstKey
first_kept =
    record {
      first = λ d key ys q k b. first_of d (reached_made d q) key k ys b;
      of_paper = λ d e j k a b q u v. one_first d e (reached_made d a) (reached_made e b) q j k u v;
      of_text =
          λ t d e j k p q a b.
          key_of_text d (since_made t d p) j a t (since_is t d p) ∙
          sym (key_of_text e (since_made t e q) k b t (since_is t e q));
      over = λ d e old ys q o h p c. over_key d e old ys q o h p c;
    }
