-- The joint paper of the page is the joint nest of the definition, and its best sets have the two old trees under a
-- root with count 0.
-- Main statements: `along_is`, `along_made`, `joint_made`, `joint_is`, `joint_tree`.
use mathlib.Core.Path.{◌≡◌, refl, sym, ◌∙◌, ap, subst}
use mathlib.Core.Bool.{Bool, true, false, not}
use mathlib.Core.List.{List, [], ◌∷◌, ◌++◌}
use mathlib.Core.Logic.{⊎_elim}
use Prim.Native.Nat.{ℕ, suc, ◌+◌, ◌≤◌}
use native.Mathlib.Omega.{arith}
use lib.Dec.{eqb}
use borrow.Author.Tests.{eq-eqb, ne_eqb, not-true}
use Rattle.laws.specs.Choice.{pick, is_in}
use Rattle.laws.proofs.Members.{in_here, in_later, in_cons}
use Rattle.laws.proofs.Tests.{never}
use Rattle.paper_nests.specs.declared.Dependence as DE
use Rattle.paper_nests.specs.Nests.{Dep, Nest}
use Rattle.paper_nests.specs.Loops.{is_do, end_of}
use Rattle.paper_nests.specs.Valid.{is_shape, is_valid}
use Rattle.paper_nests.specs.Stored.{dep_in}
use Rattle.paper_nests.proofs.Deps.{valid_is}
use Rattle.paper_placements.specs.Placements.{loop_count}
use Rattle.paper_placements.proofs.Cuts.{correct_gaps}
use Rattle.paper_order.specs.Keys.{IsKey}
use Rattle.paper_order.proofs.Keys.{keys_agree}
use Rattle.paper_texts.specs.NestTexts.{Got, got, read_nest}
use Rattle.paper_texts.proofs.Accepted.{accepted_valid, meaning_accepted}
use Rattle.call_join.specs.JointNests as N
use Rattle.call_join.specs.JointNests.{moved_dep, moved_deps, moved_gaps, second_at}
use Rattle.call_join.proofs.JointValid as J
use Rattle.call_join.proofs.JointPlacements.{first_of, second_of, first_count, second_count, outer_count}
use Rattle.call_join.proofs.JointKey.{key_parts}
use Rattle.call_join.proofs.Parts.{do_moved, end_moved}
use Rattle.pages.specs.Demands as P
use Rattle.pages.specs.Demands.{In, HowMany, Own, Loop, Paper, Best, Spells, Runs}
use Rattle.pages.proofs.Bodies.{loop_end, loop_do, loop_at}
use Rattle.pages.proofs.Placements.{mapped, nest_of, counted}
use Rattle.pages.proofs.Rules.{page_valid, valid_page}
use Rattle.pages.proofs.Keys.{shaped}
use Rattle.pages.proofs.Texts.{page_means, unmapped, unmap, map_back}
use Rattle.pages.proofs.Kept.{same_paper}
use Rattle.pages_requests.proofs.FirstKeys.{is_key}
use Rattle.pages_calls.specs.Join.{Along, Joint, OneCount, Tree}

-- ---- dependences moved along

along_is : (k : ℕ) (xs ys : List DE.Dependence) → Along k xs ys → mapped ys ≡ moved_deps k (mapped xs)
along_is k xs ys Along.none = refl
along_is k xs ys (Along.line {x = x} {y = y} {xs = us} {ys = vs} a b c d e r) =
    let h : dep_in y ≡ moved_dep k (dep_in x) = rw (eq-eqb x.kind 17 a) (cc (a, b, c, d, e)) in
    cc (h, along_is k us vs r)
along_is k xs ys (Along.round {x = x} {y = y} {xs = us} {ys = vs} a b c d e r) =
    let f : eqb x.kind 17 ≡ false = ne_eqb x.kind 17 (λ z. omega (arith, a, z)) in
    let h : dep_in y ≡ moved_dep k (dep_in x) = rw f (cc (a, b, c, d, e)) in
    cc (h, along_is k us vs r)

along_made
    : (ps : List ℕ) (k : ℕ) (xs : List DE.Dependence) → ((x : DE.Dependence) → In x xs → Runs ps x)
    → Along k xs (unmapped (moved_deps k (mapped xs)))
along_made ps k [] h = Along.none
along_made ps k (x ∷ xs) h = go (h x (0, refl)) (along_made ps k xs (λ y i. h y (suc i.0, i.1)))
  where
    go
        : Runs ps x → Along k xs (unmapped (moved_deps k (mapped xs)))
        → Along k (x ∷ xs) (unmapped (moved_deps k (mapped (x ∷ xs))))
    go (Runs.line a b c) r =
        Along.line a a (ap (λ (t : Bool). pick t x.d (k + x.d)) (eq-eqb x.kind 17 a)) refl refl r
    go (Runs.round e a l b c d f) r =
        Along.round a a
        (ap (λ (t : Bool). pick t x.d (k + x.d)) (ne_eqb x.kind 17 (λ z. omega (arith, a, z)))) refl refl r

unmapped_append : (xs ys : List Dep) → unmapped (xs ++ ys) ≡ unmapped xs ++ unmapped ys
unmapped_append [] ys = refl
unmapped_append (x ∷ xs) ys =
    ap (λ (l : List DE.Dependence). record { kind = x.kind; d = x.d; s = x.s; t = x.t } ∷ l) (unmapped_append xs ys)

mapped_append : (xs ys : List DE.Dependence) → mapped (xs ++ ys) ≡ mapped xs ++ mapped ys
mapped_append [] ys = refl
mapped_append (x ∷ xs) ys = ap (λ (l : List Dep). dep_in x ∷ l) (mapped_append xs ys)

-- ---- papers that texts spell

-- the flags with which the text is read
pub record Read (s : List ℕ) (p : Paper) : Type 0 where
  pub flags : List ℕ
  pub read : read_nest s ≡ got 0 0 (nest_of p flags)

pub read_of : (s : List ℕ) (p : Paper) → Spells s p → Read s p
read_of s p h =
    let q = page_means s p h in
    record { flags = q.0; read = meaning_accepted s (nest_of p q.0) q.1 }

module _ (p q : Paper) (fp fq : List ℕ) (one : is_valid (nest_of p fp) ≡ true) (two : is_valid (nest_of q fq) ≡ true)
    (np : p.barred ≡ []) (nq : q.barred ≡ []) where
  abbrev n : Nest
  n = nest_of p fp

  abbrev m : Nest
  m = nest_of q fq

  pub papers : N.Papers n m
  papers = record { first = one; second = two; first_unbarred = np; second_unbarred = nq }

  -- the joint paper of the definition
  abbrev pub joint_paper : Paper
  joint_paper = record { points = (N.joined n m).points; deps = unmapped (N.joined n m).deps; barred = [] }

  pub joint_nest : nest_of joint_paper (N.joined n m).flagged ≡ N.joined n m
  joint_nest = rw (map_back (N.joined n m).deps)

  pub joint_made : Joint p q joint_paper
  joint_made =
      record {
        points = refl;
        firsts = unmapped (moved_deps 1 (mapped p.deps));
        seconds = unmapped (moved_deps (second_at n) (mapped q.deps));
        first = along_made p.points 1 p.deps (valid_page p fp one).runs;
        second = along_made q.points (second_at n) q.deps (valid_page q fq two).runs;
        deps = unmapped_append (moved_deps 1 (mapped p.deps)) (moved_deps (second_at n) (mapped q.deps));
        barred = refl;
      }

  -- is the only one
  pub joint_is : (j : Paper) → Joint p q j → nest_of j (N.joined n m).flagged ≡ N.joined n m
  joint_is j h =
      let deps : mapped j.deps ≡ moved_deps 1 (mapped p.deps) ++ moved_deps (second_at n) (mapped q.deps) =
      ap mapped h.deps ∙ mapped_append h.firsts h.seconds ∙
      cc (along_is 1 p.deps h.firsts h.first, along_is (second_at n) q.deps h.seconds h.second) in
      rw (h.points, deps, h.barred)

  joint_one : (j : Paper) → Joint p q j → j ≡ joint_paper
  joint_one j h =
      let e = joint_is j h in
      let deps : j.deps ≡ unmapped (N.joined n m).deps =
      sym (unmap j.deps) ∙ ap (λ (x : Nest). unmapped x.deps) e in
      same_paper j.points joint_paper.points j.deps joint_paper.deps j.barred [] h.points deps
      h.barred

  -- ---- its tree

  module _ (j : Paper) (h : Joint p q j) (v : is_valid (N.joined n m) ≡ true) (within : N.exceeds n m ≡ false)
      (a b key : List ℕ) (x : Best p a) (y : Best q b) (z : Best j key) where
    both : J.Joint n m
    both = J.joint_by n m papers within

    whole_key : IsKey (N.joined n m) key
    whole_key =
        subst (λ (o : Nest). IsKey o key) (joint_is j h)
        (is_key j (N.joined n m).flagged (ap is_valid (joint_is j h) ∙ v) key z)

    one_key : IsKey n a
    one_key = is_key p fp one a x

    two_key : IsKey m b
    two_key = is_key q fq two b y

    whole : is_shape (N.joined n m).points ≡ true
    whole = (valid_is (N.joined n m) v).shape

    counts_first : (d : ℕ) → is_do p.points d ≡ true → loop_count (N.joined n m) key (1 + d) ≡ loop_count n a d
    counts_first d i =
        let k = key_parts n m both key whole_key in
        let g = first_of n m both key in
        let s = second_of n m both key in
        ap (λ (l : List ℕ). loop_count (N.joined n m) l (1 + d)) k.is ∙
        first_count n m both g s (correct_gaps n g k.first.correct) (correct_gaps m s k.second.correct) d i ∙
        keys_agree n (shaped p fp one) g a k.first one_key d i

    counts_second
        : (d : ℕ) → is_do q.points d ≡ true → loop_count (N.joined n m) key (second_at n + d) ≡ loop_count m b d
    counts_second d i =
        let k = key_parts n m both key whole_key in
        let g = first_of n m both key in
        let s = second_of n m both key in
        ap (λ (l : List ℕ). loop_count (N.joined n m) l (second_at n + d)) k.is ∙
        second_count n m both g s (correct_gaps n g k.first.correct) (correct_gaps m s k.second.correct) d i ∙
        keys_agree m (shaped q fq two) s b k.second two_key d i

    counts_root : loop_count (N.joined n m) key 0 ≡ 0
    counts_root =
        let k = key_parts n m both key whole_key in
        let g = first_of n m both key in
        let s = second_of n m both key in
        ap (λ (l : List ℕ). loop_count (N.joined n m) l 0) k.is ∙
        outer_count n m both g s (correct_gaps n g k.first.correct) (correct_gaps m s k.second.correct)

    how_many
        : (d e : ℕ) → Loop (N.joined n m).points d e
        → HowMany (Own (N.joined n m).points d e) key (loop_count (N.joined n m) key d)
    how_many d e l =
        counted (N.joined n m).points whole (N.joined n m) refl d e 0 l key
        (correct_gaps (N.joined n m) key whole_key.correct)

    moved_loop
        : (ps : List ℕ) (k d e : ℕ) → is_do (N.joined n m).points (k + d) ≡ true
        → end_of (N.joined n m).points (k + d) ≡ k + e
        → Loop (N.joined n m).points (k + d) (k + e)
    moved_loop ps k d e i c =
        subst (λ (o : ℕ). Loop (N.joined n m).points (k + d) o) c (loop_at (N.joined n m).points whole (k + d) i)

    pub joint_tree : Tree p q j a b key
    joint_tree =
        subst (λ (o : Paper). Tree p q o a b key) (sym (joint_one j h))
        (record {
          root = λ e l. subst (λ (c : ℕ). HowMany (Own (N.joined n m).points 0 e) key c) counts_root (how_many 0 e l);
          first = λ d e l. one-loop d e l;
          second = λ d e l. two_loop d e l;
        })
      where
        one-loop : (d e : ℕ) → Loop p.points d e → OneCount p.points a (N.joined n m).points key 1 d e
        one-loop d e l =
            let i = loop_do p.points d e l in
            let c =
            end_moved n.points (N.joined n m).points 1 both.first-at d i ∙
            ap (λ (o : ℕ). 1 + o) (loop_end p.points d e l) in
            let w =
            moved_loop p.points 1 d e (do_moved n.points (N.joined n m).points 1 both.first-at d i) c in (
              loop_count n a d,
              (
                counted p.points (shaped p fp one) n refl d e 0 l a (correct_gaps n a one_key.correct),
                subst (λ (o : ℕ). HowMany (Own (N.joined n m).points (1 + d) (1 + e)) key o) (counts_first d i)
                    (how_many (1 + d) (1 + e) w),
              ),
            )

        two_loop : (d e : ℕ) → Loop q.points d e → OneCount q.points b (N.joined n m).points key (second_at n) d e
        two_loop d e l =
            let i = loop_do q.points d e l in
            let c =
            end_moved m.points (N.joined n m).points (second_at n) both.second-at d i ∙
            ap (λ (o : ℕ). second_at n + o) (loop_end q.points d e l) in
            let w =
            moved_loop q.points (second_at n) d e
            (do_moved m.points (N.joined n m).points (second_at n) both.second-at d i) c in (
              loop_count m b d,
              (
                counted q.points (shaped q fq two) m refl d e 0 l b (correct_gaps m b two_key.correct),
                subst (λ (o : ℕ). HowMany (Own (N.joined n m).points (second_at n + d) (second_at n + e)) key o)
                    (counts_second d i)
                    (how_many (second_at n + d) (second_at n + e) w),
              ),
            )

-- a valid joint paper exceeds no limit, whatever is flagged
pub joint_within
    : (p q : Paper) (fp fq : List ℕ) → is_valid (nest_of p fp) ≡ true → is_valid (nest_of q fq) ≡ true → p.barred ≡ []
    → q.barred ≡ [] → (j : Paper) → Joint p q j → P.Valid j → N.exceeds (nest_of p fp) (nest_of q fq) ≡ false
joint_within p q fp fq one two np nq j k v =
    let a = page_valid p [] refl (valid_page p fp one) in
    let b = page_valid q [] refl (valid_page q fq two) in
    let z : is_valid (N.joined (nest_of p []) (nest_of q [])) ≡ true =
    ap is_valid (sym (joint_is p q [] [] a b np nq j k)) ∙ page_valid j [] refl v in
    let w : not (N.exceeds (nest_of p []) (nest_of q [])) ≡ true =
    sym (J.joined_valid (nest_of p []) (nest_of q []) (papers p q [] [] a b np nq)) ∙ z in
    not-true (N.exceeds (nest_of p []) (nest_of q [])) w

pub valid_read
    : (s : List ℕ) (p : Paper) (fl : List ℕ) → read_nest s ≡ got 0 0 (nest_of p fl) → is_valid (nest_of p fl) ≡ true
valid_read s p fl e =
    ap (λ (g : Got). is_valid g.nest_is) (sym e) ∙ accepted_valid s (ap (λ (g : Got). g.number) e)

-- ---- numbers moved along

pub moved_from : (k x : ℕ) (gs : List ℕ) → is_in x (moved_gaps k gs) ≡ true → (g : ℕ) × ((is_in g gs ≡ true) × (x ≡ k + g))
moved_from k x [] h = never h
moved_from k x (g ∷ gs) h =
    ⊎_elim
    (λ (z : x ≡ k + g). (g, (in_here g gs, z)))
    (λ (z : is_in x (moved_gaps k gs) ≡ true). let r = moved_from k x gs z in
    (r.0, (in_later r.0 g gs r.1.0, r.1.1)))
    (in_cons x (k + g) (moved_gaps k gs) h)

pub moved_low : (k x : ℕ) (gs : List ℕ) → is_in x (moved_gaps k gs) ≡ true → k ≤ x
moved_low k x gs h = let r = moved_from k x gs h in omega (arith, r.1.1)
