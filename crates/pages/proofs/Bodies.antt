-- Loops as bodies of statements and whole loops, and loops by their depth: the same loops.
-- Main statements: `loop_end`, `loop_at`, `shape_of`, `shape_whole`.
use mathlib.Core.Path.{◌≡◌, refl, sym, ◌∙◌, ap, subst}
use mathlib.Core.Bool.{Bool, true, false, ◌&&◌}
use mathlib.Core.List.{List, [], ◌∷◌}
use mathlib.Core.Logic.{⊎_elim}
use Prim.Native.Nat.{ℕ, zero, suc, ◌+◌, ◌-◌, ◌≤◌, ◌<◌}
use native.Mathlib.Omega.{arith}
use lib.Dec.{eqb, ltb}
use lib.ListN.{length, get_or, drop, drop_of_length-le}
use lib.Seq.{drop-cons}
use borrow.Author.Tests.{eq-eqb, ne_eqb, eqb-true, ltb-true, lt-ltb}
use Rattle.laws.specs.Choice.{pick}
use Rattle.laws.proofs.Tests.{never, le_or, and_true, and_intro}
use Rattle.paper_nests.specs.Kinds.{DO, ENDDO, STATEMENT, DEPTH}
use Rattle.paper_nests.specs.Loops.{is_do, end_from, end_of}
use Rattle.paper_nests.specs.Valid.{closes, is_shape}
use Rattle.paper_nests.proofs.Levels.{point_in}
use Rattle.pages.specs.Demands.{At, Body, Loop}
use Rattle.pages.proofs.Lists.{at_in, at_is, is_at}

-- the rest of the points from a point of a known kind
at_drop : (ps : List ℕ) (a k : ℕ) → At ps a k → drop a ps ≡ k ∷ drop (suc a) ps
at_drop ps a k h = drop-cons ps a 0 (at_in ps a k h) ∙ ap (λ (x : ℕ). x ∷ drop (suc a) ps) (at_is ps a k 0 h)

pub body_le : (ps : List ℕ) (h a b : ℕ) → Body ps h a b → a ≤ b
body_le ps h a b (Body.done e) = omega arith
body_le ps h a b (Body.statement p r) = omega (arith, body_le ps h (suc a) b r)
body_le ps h a b (Body.loop {h = k} {e = e} p i q r) =
    omega (arith, body_le ps k (suc a) e i, body_le ps (suc k) (suc e) b r)

-- a search for an ENDDO further out passes a body
body_end
    : (ps : List ℕ) (h a b : ℕ) → Body ps h a b → (k : ℕ)
    → end_from a (suc k) (drop a ps) ≡ end_from b (suc k) (drop b ps)
body_end ps h a b (Body.done e) k = rw e
body_end ps h a b (Body.statement p r) k = rw (at_drop ps a 3 p) (body_end ps h (suc a) b r k)
body_end ps h a b (Body.loop {h = i} {e = e} p s q r) k =
    let y : suc (suc k) - 1 ≡ suc k = omega arith in
    let z : end_from e (suc (suc k)) (drop e ps) ≡ end_from (suc e) (suc k) (drop (suc e) ps) =
    rw (at_drop ps e 2 q, ne_eqb (suc (suc k)) 1 (λ x. omega arith), y) in
    rw (at_drop ps a 1 p) (body_end ps i (suc a) e s (suc k) ∙ z ∙ body_end ps (suc i) (suc e) b r k)

pub loop_end : (ps : List ℕ) (d e : ℕ) → Loop ps d e → end_of ps d ≡ e
loop_end ps d e l =
    let z : end_from e 1 (drop e ps) ≡ e = rw (at_drop ps e 2 l.ends) in
    rw (at_drop ps d 1 l.begins) (body_end ps 7 (suc d) e l.body 0 ∙ z)

pub loop_do : (ps : List ℕ) (d e : ℕ) → Loop ps d e → is_do ps d ≡ true
loop_do ps d e l = eq-eqb (get_or ps d 0) 1 (at_is ps d 1 0 l.begins)

-- and so does the test that all loops close
body_closes
    : (ps : List ℕ) (h a b : ℕ) → Body ps h a b → (d : ℕ) → h + d ≤ 7
    → closes (suc d) (drop a ps) ≡ closes (suc d) (drop b ps)
body_closes ps h a b (Body.done e) d l = rw e
body_closes ps h a b (Body.statement p r) d l = rw (at_drop ps a 3 p) (body_closes ps h (suc a) b r d l)
body_closes ps h a b (Body.loop {h = i} {e = e} p s q r) d l =
    let z : closes (suc (suc d)) (drop e ps) ≡ closes (suc d) (drop (suc e) ps) = rw (at_drop ps e 2 q) in
    rw (at_drop ps a 1 p, lt-ltb (suc d) 8 (omega arith))
    (body_closes ps i (suc a) e s (suc d) (omega arith) ∙ z ∙ body_closes ps (suc i) (suc e) b r d l)

pub shape_of : (ps : List ℕ) (e : ℕ) → Loop ps 0 e → length ps ≡ suc e → is_shape ps ≡ true
shape_of [] e l n = absurd (omega arith)
shape_of (p ∷ ps) e l n =
    let z : closes 1 (drop e (p ∷ ps)) ≡ closes 0 (drop (suc e) (p ∷ ps)) = rw (at_drop (p ∷ ps) e 2 l.ends) in
    let y : drop (suc e) (p ∷ ps) ≡ [] = drop_of_length-le (p ∷ ps) {i = suc e} (omega arith) in
    let x : closes 0 (drop (suc e) (p ∷ ps)) ≡ true = rw y in
    and_intro (eq-eqb p 1 l.begins) (body_closes (p ∷ ps) 7 1 e l.body 0 (omega arith) ∙ z ∙ x)

-- the body that is open at a place where all loops close
record Found (ps : List ℕ) (h d a : ℕ) : Type 0 where
  end : ℕ
  body : Body ps h a end
  ends : At ps end 2
  rest : closes d (drop (suc end) ps) ≡ true

found : (ps : List ℕ) (f a d h : ℕ) → length ps ≤ a + f → h + d ≡ 7 → closes (suc d) (drop a ps) ≡ true → Found ps h d a
found ps zero a d h l m c =
    let y : drop a ps ≡ [] = drop_of_length-le ps {i = a} (omega arith) in
    never (rw y at c)
found ps (suc f) a d h l m c =
    ⊎_elim
    (λ (z : length ps ≤ a). let y : drop a ps ≡ [] = drop_of_length-le ps {i = a} z in never (rw y at c))
    (λ (z : a < length ps).
    go z h m (eqb (get_or ps a 0) DO) (eqb (get_or ps a 0) ENDDO) refl refl (rw (drop-cons ps a 0 z) at c)
    (found ps f))
    (le_or (length ps) a)
  where
    go
        : a < length ps → (h : ℕ) → h + d ≡ 7 → (s t : Bool) → eqb (get_or ps a 0) DO ≡ s → eqb (get_or ps a 0) ENDDO ≡ t
        → pick s (ltb (suc d) DEPTH && closes (suc (suc d)) (drop (suc a) ps))
        (pick t (closes d (drop (suc a) ps)) (eqb (get_or ps a 0) STATEMENT && closes (suc d) (drop (suc a) ps))) ≡ true
        → ((b k i : ℕ) → length ps ≤ b + f → i + k ≡ 7 → closes (suc k) (drop b ps) ≡ true → Found ps i k b)
        → Found ps h d a
    go z zero m true t x y c more =
        let w = and_true (ltb (suc d) DEPTH) (closes (suc (suc d)) (drop (suc a) ps)) c in
        absurd (omega (arith, ltb-true (suc d) DEPTH w.0))
    go z (suc i) m true t x y c more =
        let w = and_true (ltb (suc d) DEPTH) (closes (suc (suc d)) (drop (suc a) ps)) c in
        inner (more (suc a) (suc d) i (omega arith) (omega arith) w.1)
      where
        inner : Found ps i (suc d) (suc a) → Found ps (suc i) d a
        inner u =
            let v =
            more (suc u.end) d (suc i) (omega (arith, body_le ps i (suc a) u.end u.body)) m u.rest in
            record {
              end = v.end;
              body = Body.loop (is_at ps a 1 0 z (eqb-true (get_or ps a 0) 1 x)) u.body u.ends v.body;
              ends = v.ends;
              rest = v.rest;
            }
    go z h m false true x y c more =
        record {
          end = a;
          body = Body.done refl;
          ends = is_at ps a 2 0 z (eqb-true (get_or ps a 0) 2 y);
          rest = c;
        }
    go z h m false false x y c more =
        let w = and_true (eqb (get_or ps a 0) STATEMENT) (closes (suc d) (drop (suc a) ps)) c in
        let u = more (suc a) d h (omega arith) m w.1 in
        record {
          end = u.end;
          body = Body.statement (is_at ps a 3 0 z (eqb-true (get_or ps a 0) 3 w.0)) u.body;
          ends = u.ends;
          rest = u.rest;
        }

-- a nest is one loop from its first point to its last
pub record Whole (ps : List ℕ) : Type 0 where
  pub end : ℕ
  pub loop : Loop ps 0 end
  pub last : length ps ≡ suc end

closed_none : (ps : List ℕ) (e : ℕ) → e < length ps → closes 0 (drop (suc e) ps) ≡ true → length ps ≡ suc e
closed_none ps e l c =
    ⊎_elim
    (λ (z : length ps ≤ suc e). omega arith)
    (λ (z : suc e < length ps). never (rw (drop-cons ps (suc e) 0 z) at c))
    (le_or (length ps) (suc e))

pub shape_whole : (ps : List ℕ) → is_shape ps ≡ true → Whole ps
shape_whole [] h = never h
shape_whole (p ∷ ps) h =
    let z = and_true (eqb p DO) (closes 1 ps) h in
    let u = found (p ∷ ps) (length ps) 1 0 7 (omega arith) refl z.1 in
    record {
      end = u.end;
      loop = record { begins = eqb-true p 1 z.0; body = u.body; ends = u.ends };
      last = closed_none (p ∷ ps) u.end (at_in (p ∷ ps) u.end 2 u.ends) u.rest;
    }

-- a body within another depth
body_deeper : (ps : List ℕ) (h a b k : ℕ) → h ≤ k → Body ps h a b → Body ps k a b
body_deeper ps h a b k l (Body.done e) = Body.done e
body_deeper ps h a b k l (Body.statement p r) = Body.statement p (body_deeper ps h (suc a) b k l r)
body_deeper ps h a b zero l (Body.loop {h = i} {e = e} p s q r) = absurd (omega arith)
body_deeper ps h a b (suc k) l (Body.loop {h = i} {e = e} p s q r) =
    Body.loop p (body_deeper ps i (suc a) e k (omega arith) s) q (body_deeper ps (suc i) (suc e) b (suc k) l r)

-- every DO in a body begins a loop
do_loop
    : (ps : List ℕ) (h a b : ℕ) → h ≤ 7 → Body ps h a b → (d : ℕ) → a ≤ d → d < b → At ps d 1 → (e : ℕ) × Loop ps d e
do_loop ps h a b l (Body.done x) d m n o = absurd (omega arith)
do_loop ps h a b l (Body.statement p r) d m n o =
    ⊎_elim
    (λ (z : d ≤ a).
    let e : d ≡ a = omega arith in
    let q : ◌≡◌ {A = ℕ} 1 3 = sym (at_is ps d 1 0 o) ∙ ap (λ (i : ℕ). get_or ps i 0) e ∙ at_is ps a 3 0 p in
    absurd (omega arith))
    (λ (z : a < d). do_loop ps h (suc a) b l r d z n o)
    (le_or d a)
do_loop ps h a b l (Body.loop {h = i} {e = e} p s q r) d m n o =
    ⊎_elim
    (λ (z : d ≤ a).
    let y : a ≡ d = omega arith in
    subst (λ (x : ℕ). (e : ℕ) × Loop ps x e) y
    (e, record { begins = p; body = body_deeper ps i (suc a) e 7 (omega arith) s; ends = q }))
    (λ (z : a < d).
    ⊎_elim
    (λ (y : d ≤ e).
    ⊎_elim
    (λ (x : e ≤ d).
    let w : d ≡ e = omega arith in
    let v : ◌≡◌ {A = ℕ} 1 2 = sym (at_is ps d 1 0 o) ∙ ap (λ (i : ℕ). get_or ps i 0) w ∙ at_is ps e 2 0 q in
    absurd (omega arith))
    (λ (x : d < e). do_loop ps i (suc a) e (omega arith) s d z x o)
    (le_or e d))
    (λ (y : e < d). do_loop ps (suc i) (suc e) b l r d y n o)
    (le_or d e))
    (le_or d a)

pub loop_at : (ps : List ℕ) → is_shape ps ≡ true → (d : ℕ) → is_do ps d ≡ true → Loop ps d (end_of ps d)
loop_at ps shape d h =
    let w = shape_whole ps shape in
    let i = point_in ps d 0 h in
    let o : At ps d 1 = is_at ps d 1 0 i (eqb-true (get_or ps d 0) 1 h) in
    ⊎_elim
    (λ (z : d ≤ 0).
    let y : 0 ≡ d = omega arith in
    named d (subst (λ (x : ℕ). (e : ℕ) × Loop ps x e) y (w.end, w.loop)))
    (λ (z : 0 < d).
    ⊎_elim
    (λ (x : w.end ≤ d).
    let v : d ≡ w.end = omega (arith, w.last) in
    let u : ◌≡◌ {A = ℕ} 1 2 =
    sym (at_is ps d 1 0 o) ∙ ap (λ (i : ℕ). get_or ps i 0) v ∙ at_is ps w.end 2 0 w.loop.ends in
    absurd (omega arith))
    (λ (x : d < w.end). named d (do_loop ps 7 1 w.end (omega arith) w.loop.body d z x o))
    (le_or w.end d))
    (le_or d 0)
  where
    named : (x : ℕ) → (e : ℕ) × Loop ps x e → Loop ps x (end_of ps x)
    named x l = subst (λ (e : ℕ). Loop ps x e) (sym (loop_end ps x l.0 l.1)) l.1
