-- The limits from what goes back: the limit at q is the lesser of what goes back at q and the limit at q + 1; at the
-- ENDDO it is the ENDDO.
-- Main definitions: `Ended`, `Limiting`, `LimitingAll`. Main statements: `least_end_split`, `limit_step`, `limit_last`,
-- `lowest_is_limit`; for all rows `row_there`, `limits_on`, `limits_skip`, `limits_done`.
use mathlib.Core.Path.{◌≡◌, refl, sym, ap, ◌∙◌}
use mathlib.Core.Bool.{Bool, true, false, ◌&&◌, ◌||◌, not}
use mathlib.Core.List.{List, [], ◌∷◌}
use mathlib.Core.Logic.{◌⊎◌, inl, inr, ⊎_elim}
use Prim.Native.Nat.{ℕ, zero, suc, ◌+◌, ◌-◌, ◌*◌, ◌≤◌, ◌<◌, min}
use native.Mathlib.Omega.{arith}
use lib.Dec.{eqb, ltb}
use lib.ListN.{length, get_or}
use borrow.Author.Tests.{eqb-true, eq-eqb, ne_eqb, ltb-true, lt-ltb}
use Rattle.laws.specs.Choice.{pick}
use Rattle.laws.specs.Members.{Among}
use Rattle.laws.specs.Entries.{at}
use Rattle.laws.proofs.Tests.{never_both, eq_or, le_or, bool_by, false_by, and_true, or-true, or_left, or_right}
use Rattle.paper_nests.specs.Kinds.{INDEPENDENT, POINTS}
use Rattle.paper_nests.specs.Nests.{Dep}
use Rattle.paper_nests.specs.Loops.{is_do, end_of}
use Rattle.paper_nests.proofs.Loops.{end_there, end-after}
use Rattle.paper_nests.proofs.Deps.{Fits}
use Rattle.plan_method.proofs.Instance.{AllFit}
use Rattle.plan_method.specs.Home.{home_of, returns_after, least_end, limit_of}
use Rattle.plan_tables.specs.Charts.{ROW, TABLE, cell, Rows, Points, EndsAre}
use Rattle.plan_tables.specs.Collected.{leaves_at, back_of, lowest_from, Narrowed, Limited}
use Rattle.plan_tables.proofs.Cells.{Tall, cell_fits, same_cell}

-- a test that is one of two: the least end is the lesser of theirs
least_end_split :
    (p a b : Dep → Bool) (n m : ℕ) → m ≤ n → ((e : Dep) → p e ≡ (a e || b e)) → (ds : List Dep) →
    least_end p m ds ≡ min (least_end a n ds) (least_end b m ds)
unfolding least_end
least_end_split p a b n m l f [] = omega arith
least_end_split p a b n m l f (e ∷ ds) = rw (f e) (go (a e) (b e) (least_end_split p a b n m l f ds))
  where
    x : ℕ
    x = least_end p m ds

    y : ℕ
    y = least_end a n ds

    z : ℕ
    z = least_end b m ds

    go :
        (s t : Bool) → x ≡ min y z →
        pick (s || t) (min e.t x) x ≡ min (pick s (min e.t y) y) (pick t (min e.t z) z)
    go true true h = omega arith
    go true false h = omega arith
    go false true h = omega arith
    go false false h = omega arith

-- a test that none passes
least_end_none :
    (p : Dep → Bool) (none : ℕ) (ds : List Dep) → ((e : Dep) → Among e ds → p e ≡ false) → least_end p none ds ≡ none
unfolding least_end
least_end_none p none [] f = refl
least_end_none p none (e ∷ ds) f = rw (f e (inl refl)) (least_end_none p none ds (λ x h. f x (inr h)))

-- s at or after q: at q, or after it
at_or_after : (s q : ℕ) → ltb q (suc s) ≡ (eqb s q || ltb (suc q) (suc s))
at_or_after s q = bool_by (ltb q (suc s)) (eqb s q || ltb (suc q) (suc s)) there back
  where
    there : ltb q (suc s) ≡ true → (eqb s q || ltb (suc q) (suc s)) ≡ true
    there h =
        let l = ltb-true q (suc s) h in
        ⊎_elim
        (λ (z : s ≡ q). or_left (ltb (suc q) (suc s)) (eq-eqb s q z))
        (λ (z : s ≡ q → ⊥). or_right (eqb s q) (lt-ltb (suc q) (suc s) (omega arith)))
        (eq_or s q)

    back : (eqb s q || ltb (suc q) (suc s)) ≡ true → ltb q (suc s) ≡ true
    back h = lt-ltb q (suc s) (⊎_elim
        (λ (z : eqb s q ≡ true). let y = eqb-true s q z in omega arith)
        (λ (z : ltb (suc q) (suc s) ≡ true). let y = ltb-true (suc q) (suc s) z in omega arith)
        (or-true (eqb s q) (ltb (suc q) (suc s)) h))

spread : (a b c d : Bool) → (a && (b && (c || d))) ≡ ((a && (b && c)) || (a && (b && d)))
spread false b c d = refl
spread true false c d = refl
spread true true c d = refl

module _ (ps : List ℕ) (w : Points ps) (ds : List Dep) (fit : AllFit ps ds) (d : ℕ) (h : is_do ps d ≡ true) where
  pub limit_step : (q : ℕ) → limit_of ps ds d q ≡ min (back_of ps ds d q) (limit_of ps ds d (suc q))
  unfolding limit_of back_of
  limit_step q =
      least_end_split (returns_after ps d q) (leaves_at ps d q) (returns_after ps d (suc q)) (length ps) (end_of ps d)
      (omega (arith, end_there ps w.shape d h)) same ds
    where
      same : (e : Dep) → returns_after ps d q e ≡ (leaves_at ps d q e || returns_after ps d (suc q) e)
      same e =
          rw (at_or_after e.s q)
          (spread (not (eqb e.kind INDEPENDENT)) (eqb (home_of ps e) d) (eqb e.s q) (ltb (suc q) (suc e.s)))

  -- no carried dependence starts at or after the ENDDO
  pub limit_last : limit_of ps ds d (suc (end_of ps d)) ≡ end_of ps d
  unfolding limit_of
  limit_last = least_end_none (returns_after ps d (suc (end_of ps d))) (end_of ps d) ds (λ e a. none e (fit e a))
    where
      none : (e : Dep) → Fits ps e → returns_after ps d (suc (end_of ps d)) e ≡ false
      none e (inl f) = rw f.kind_is
      none e (inr f) = false_by λ z.
          let k : home_of ps e ≡ e.d = rw f.kind_is in
          let late = ltb (suc (end_of ps d)) (suc e.s) in
          let y = and_true (not (eqb e.kind INDEPENDENT)) (eqb (home_of ps e) d && late) z in
          let x = and_true (eqb (home_of ps e) d) late y.1 in
          let same : e.d ≡ d = sym k ∙ eqb-true (home_of ps e) d x.0 in
          let u : end_of ps e.d ≡ end_of ps d = ap (end_of ps) same in
          omega (arith, ltb-true (suc (end_of ps d)) (suc e.s) x.1, f.source_before)

  -- the least of what goes back from q on is the limit
  pub lowest_is_limit :
      (f : ℕ → ℕ) (k q : ℕ) → d < q → q + k ≡ suc (end_of ps d) →
      ((i : ℕ) → d < i → i ≤ end_of ps d → f i ≡ back_of ps ds d i) → lowest_from f (end_of ps d) k q ≡ limit_of ps ds d q
  unfolding lowest_from
  lowest_is_limit f zero q l e p =
      let z : suc (end_of ps d) ≡ q = omega arith in
      rw z at (sym limit_last)
  lowest_is_limit f (suc k) q l e p =
      omega
      (arith, lowest_is_limit f k (suc q) (omega arith) (omega arith) p, p q l (omega arith), limit_step q)

-- the points of a nest, the height of each loop and its ENDDO
pub record Ended (ps ends heights : List ℕ) : Type 0 where
  pub tall : Tall ps heights
  pub stops : EndsAre ps ends

-- a loop's row is in the table
pub row_there :
    {ps ends heights : List ℕ} → Ended ps ends heights → (d : ℕ) → get_or ps d 0 ≡ 1 →
    (d ≤ at ends d) × (at ends d < POINTS) × (cell heights d (at ends d) < TABLE)
row_there {ps} {ends} w d k =
    let h = eq-eqb (get_or ps d 0) 1 k in
    let points = w.tall.points in
    let l = end_there ps points.shape d h in (
      omega (arith, w.stops d h, end-after ps points.shape d h),
      omega (arith, w.stops d h, points.few),
      cell_fits w.tall d (at ends d) h (omega (arith, w.stops d h, points.few)),
    )

-- the rows of the loops before i hold the limits, the others what goes back
pub record Limiting (ps : List ℕ) (ds : List Dep) (heights : List ℕ) (i : ℕ) (limit : List ℕ) : Type 0 where
  pub done :
      (d q : ℕ) → is_do ps d ≡ true → d < i → d < q → q ≤ end_of ps d → at limit (cell heights d q) ≡ limit_of ps ds d q
  pub todo :
      (d q : ℕ) → is_do ps d ≡ true → i ≤ d → d < q → q ≤ end_of ps d → at limit (cell heights d q) ≡ back_of ps ds d q

-- the same of any dependences that fit, in a table as long as at the start
pub record LimitingAll (ps heights limit₀ : List ℕ) (i : ℕ) (limit : List ℕ) : Type 0 where
  pub same : length limit ≡ length limit₀
  pub each :
      (ds : List Dep) → AllFit ps ds → Rows ps heights limit₀ (back_of ps ds) → Limiting ps ds heights i limit

module _
    {ps ends heights : List ℕ} (w : Ended ps ends heights) {ds : List Dep} {i : ℕ} {limit : List ℕ}
    (p : Limiting ps ds heights i limit)
  where
    points : Points ps
    points = w.tall.points

    limiting_skip : (get_or ps i 0 ≡ 1 → ⊥) → Limiting ps ds heights (i + 1) limit
    limiting_skip k =
        record {
          done = λ d q h l. p.done d q h (before d h l);
          todo = λ d q h l. p.todo d q h (omega arith);
        }
      where
        before : (d : ℕ) → is_do ps d ≡ true → d < i + 1 → d < i
        before d h l = ⊎_elim
            (λ (z : d ≡ i). never_both (rw z at h) (ne_eqb (get_or ps i 0) 1 k))
            (λ (z : d ≡ i → ⊥). omega arith)
            (eq_or d i)

    limiting_on :
        AllFit ps ds → get_or ps i 0 ≡ 1 → {limit' : List ℕ} →
        Narrowed limit (at heights i * ROW) i (at ends i) limit' → Limiting ps ds heights (i + 1) limit'
    limiting_on fit k {limit'} n = record { done = done; todo = todo }
      where
        is-do : is_do ps i ≡ true
        is-do = eq-eqb (get_or ps i 0) 1 k

        here : (q : ℕ) → i < q → q ≤ end_of ps i → at limit' (cell heights i q) ≡ limit_of ps ds i q
        here q l m =
            let row = at heights i * ROW in
            let n' : Narrowed limit row i (end_of ps i) limit' = rw (w.stops i is-do) at n in
            n'.inside q (end_of ps i - q) l (omega arith) ∙
            lowest_is_limit ps points ds fit i is-do (λ j. at limit (row + j)) (suc (end_of ps i - q)) q l (omega arith)
            (λ j a b. p.todo i j is-do (omega arith) a b)

        -- a cell of another loop lies outside the row
        apart :
            (d q : ℕ) → is_do ps d ≡ true → (d ≡ i → ⊥) → d < q → q ≤ end_of ps d →
            (cell heights d q ≤ cell heights i i) ⊎ (cell heights i (at ends i) < cell heights d q)
        apart d q h x l m = ⊎_elim
            (λ (y : cell heights d q ≤ cell heights i i). inl y)
            (λ (y : cell heights i i < cell heights d q). ⊎_elim
            (λ (z : cell heights d q ≤ cell heights i (at ends i)).
            let r = cell heights d q - at heights i * ROW in
            let s : cell heights d q ≡ cell heights i r = omega arith in
            absurd (x (same_cell w.tall d q i r h l m is-do (omega arith) (omega (arith, w.stops i is-do)) s).0))
            (λ (z : cell heights i (at ends i) < cell heights d q). inr z)
            (le_or (cell heights d q) (cell heights i (at ends i))))
            (le_or (cell heights d q) (cell heights i i))

        elsewhere :
            (d q : ℕ) → is_do ps d ≡ true → (d ≡ i → ⊥) → d < q → q ≤ end_of ps d →
            at limit' (cell heights d q) ≡ at limit (cell heights d q)
        elsewhere d q h x l m = n.outside (cell heights d q) (apart d q h x l m)

        done :
            (d q : ℕ) → is_do ps d ≡ true → d < i + 1 → d < q → q ≤ end_of ps d →
            at limit' (cell heights d q) ≡ limit_of ps ds d q
        done d q h a l m = ⊎_elim
            (λ (z : d ≡ i). rw z (here q (omega arith) (rw z at m)))
            (λ (z : d ≡ i → ⊥). elsewhere d q h z l m ∙ p.done d q h (omega arith) l m)
            (eq_or d i)

        todo :
            (d q : ℕ) → is_do ps d ≡ true → i + 1 ≤ d → d < q → q ≤ end_of ps d →
            at limit' (cell heights d q) ≡ back_of ps ds d q
        todo d q h a l m = elsewhere d q h (λ z. omega arith) l m ∙ p.todo d q h (omega arith) l m

module _
    {ps ends heights : List ℕ} (w : Ended ps ends heights) {limit₀ : List ℕ} {i : ℕ} {limit : List ℕ}
    (s : LimitingAll ps heights limit₀ i limit)
  where
    pub limits_skip : (get_or ps i 0 ≡ 1 → ⊥) → LimitingAll ps heights limit₀ (i + 1) limit
    limits_skip k = record { same = s.same; each = λ ds f r. limiting_skip w (s.each ds f r) k }

    pub limits_on :
        {limit' : List ℕ} → get_or ps i 0 ≡ 1 → length limit' ≡ length limit →
        Narrowed limit (at heights i * ROW) i (at ends i) limit' → LimitingAll ps heights limit₀ (i + 1) limit'
    limits_on k l n = record { same = l ∙ s.same; each = λ ds f r. limiting_on w (s.each ds f r) f k n }

    pub limits_done : length ps ≤ i → Limited ps heights limit₀ limit
    limits_done l ds f r d q h =
        let shape = w.tall.points.shape in
        (s.each ds f r).done d q h (omega (arith, end_there ps shape d h, end-after ps shape d h))
