-- The claims of a row, from its last gap to its first.
-- Main definition: `Rowing`, what a turn keeps. Main statements: `row_begin`, `row_skip`, `row_on`,
-- `row_done`.
use mathlib.Core.Path.{◌≡◌, refl, sym, ◌∙◌, ap}
use mathlib.Core.Bool.{Bool, true, false, ◌&&◌, ◌||◌, not}
use mathlib.Core.List.{List, [], ◌∷◌, ◌++◌, append-nil, append_assoc}
use Prim.Native.Nat.{ℕ, zero, suc, ◌+◌, ◌-◌, ◌≤◌, ◌<◌}
use native.Mathlib.Omega.{arith}
use lib.Dec.{eqb}
use lib.ListN.{length}
use borrow.Author.Tests.{eqb-false, ne_eqb, lt-ltb, le-ltb}
use Rattle.laws.specs.Choice.{pick}
use Rattle.paper_nests.specs.declared.Nest as DN
use Rattle.paper_nests.specs.Stored.{nest_in}
use Rattle.plan_method.specs.Sweep.{Tables}
use Rattle.plan_sweeps.specs.Listed.{row}
use Rattle.argue_texts.specs.declared.Claimed.{Claimed}
use Rattle.argue_key.specs.Laps.{before, Head, head, few_for, starts_run, row_heads}
use Rattle.argue_give.specs.Given.{Gives, GiveGround, RowGround, run_at}
use Rattle.argue_give.proofs.Giving.{before_is, gives_none, gives_then, gives_as, gives_under}

-- ---- the heads

-- the heads of a row, the last gap's first
heads_on : (T : Tables) (d b : ℕ) → d < suc b →
    row_heads T d (suc b) ≡
    pick (starts_run T d b) (head d (suc b) (before (T.left d (suc b))) ∷ []) [] ++ row_heads T d b
unfolding row_heads
heads_on T d b h = rw (lt-ltb d (suc b) h) (go (starts_run T d b))
  where
    go : (t : Bool) →
        pick t (head d (suc b) (before (T.left d (suc b))) ∷ row_heads T d b) (row_heads T d b) ≡
        pick t (head d (suc b) (before (T.left d (suc b))) ∷ []) [] ++ row_heads T d b
    go true = refl
    go false = refl

heads_none : (T : Tables) (d b : ℕ) → b ≤ d → row_heads T d b ≡ []
unfolding row_heads
heads_none T d zero h = refl
heads_none T d (suc b) h = rw (le-ltb d (suc b) h)

-- ---- the turns

pub record Rowing
    (nest : DN.Nest)
    (ps own left : List ℕ)
    (kids base : ℕ)
    (need₀ sets₀ : List ℕ)
    (claims₀ : List Claimed)
    (d e cost : ℕ)
    (out₀ : List ℕ)
    (at₀ many₀ : ℕ)
    (need sets : List ℕ)
    (claims : List Claimed)
    (out : List ℕ)
    (at many b : ℕ)
    : Type 0 where
  pub high : b ≤ e
  pub need_is : need ≡ need₀
  pub sets_is : sets ≡ sets₀
  pub claims_size : length claims ≡ length claims₀
  pub out_size : length out ≡ length out₀
  pub fewer : many + b ≤ many₀ + e
  pub done : Tables → List Head
  pub gives
      : Gives ps (nest_in nest).deps (RowGround nest ps own left kids base need₀ sets₀ d e cost) done
      out₀ at₀ claims₀ many₀ out at claims many
  pub rest
      : (T : Tables)
      → RowGround nest ps own left kids base need₀ sets₀ d e cost T
      → done T ++ row_heads T d b ≡ row_heads T d e

module _
    {nest : DN.Nest} {ps own left : List ℕ} {kids base : ℕ} {need₀ sets₀ : List ℕ} {claims₀ : List Claimed}
    {d e cost : ℕ} {out₀ : List ℕ} {at₀ many₀ : ℕ}
  where
    pub row_begin :
        Rowing nest ps own left kids base need₀ sets₀ claims₀ d e cost out₀ at₀ many₀ need₀ sets₀ claims₀ out₀
        at₀ many₀ e
    row_begin =
        record {
          high = omega arith;
          need_is = refl;
          sets_is = refl;
          claims_size = refl;
          out_size = refl;
          fewer = omega arith;
          done = λ T. [];
          gives = gives_none;
          rest = λ T g. refl;
        }

    module _ {need sets : List ℕ} {claims : List Claimed} {out : List ℕ} {at many b : ℕ}
        (p : Rowing nest ps own left kids base need₀ sets₀ claims₀ d e cost out₀ at₀ many₀ need sets claims
        out at many b) where
      pub row_done : b ≤ d →
          Gives ps (nest_in nest).deps (RowGround nest ps own left kids base need₀ sets₀ d e cost)
          (λ T. row_heads T d e) out₀ at₀ claims₀ many₀ out at claims many
      row_done l =
          gives_as
          (λ T g.
          sym (append-nil (p.done T)) ∙
          ap (λ (x : List Head). p.done T ++ x) (sym (heads_none T d b l)) ∙ p.rest T g) p.gives

      module _ (inside : d < b) where
        back : suc (b - 1) ≡ b
        back = omega arith

        -- what the row says of a table is what the lists say
        module _ (T : Tables) (r : RowGround nest ps own left kids base need₀ sets₀ d e cost T) where
          front : row left base b ≡ T.left d b
          front = r.row_is b inside p.high

          run : run_at left base d (b - 1) ≡ starts_run T d (b - 1)
          run = go (b - 1) back
            where
              go : (c : ℕ) → suc c ≡ b → run_at left base d c ≡ starts_run T d c
              go c z =
                  let x : row left base (suc c) ≡ T.left d (suc c) =
                  r.row_is (suc c) (omega arith) (omega (arith, p.high)) in
                  rw x (tests (eqb c d) refl)
                where
                  tests : (t : Bool) → eqb c d ≡ t →
                      (not (eqb (T.left d (suc c)) (suc d)) && (t || not (eqb (T.left d (suc c)) (row left base c)))) ≡
                      (not (eqb (T.left d (suc c)) (suc d)) && (t || not (eqb (T.left d (suc c)) (T.left d c))))
                  tests true y = refl
                  tests false y =
                      let n : c ≡ d → ⊥ = eqb-false c d y in
                      rw (r.row_is c (omega (arith, n)) (omega (arith, p.high)))

          few : (upto : ℕ) → cost ≡ few_for T (head d b upto)
          few upto = rw (ne_eqb b 0 (λ (z : b ≡ 0). omega arith)) r.cost_is

          heads : (t : Bool) → t ≡ run_at left base d (b - 1) →
              pick t (head d b (before (row left base b)) ∷ []) [] ++ row_heads T d (b - 1) ≡ row_heads T d b
          heads t z = rw (front, z ∙ run) (go (b - 1) back)
            where
              go : (c : ℕ) → suc c ≡ b →
                  pick (starts_run T d c) (head d b (before (T.left d b)) ∷ []) [] ++ row_heads T d c ≡ row_heads T d b
              go c z = rw (← z) (sym (heads_on T d c (omega arith)))

        -- a gap that starts no run
        pub row_skip : false ≡ run_at left base d (b - 1) →
            Rowing nest ps own left kids base need₀ sets₀ claims₀ d e cost out₀ at₀ many₀ need sets claims out at many
            (b - 1)
        row_skip z =
            record {
              high = omega (arith, p.high);
              need_is = p.need_is;
              sets_is = p.sets_is;
              claims_size = p.claims_size;
              out_size = p.out_size;
              fewer = omega (arith, p.fewer);
              done = p.done;
              gives = p.gives;
              rest = λ T r. ap (λ (x : List Head). p.done T ++ x) (heads T r false z) ∙ p.rest T r;
            }

        -- one that starts a run, with its claim
        pub row_on : true ≡ run_at left base d (b - 1) → {upto : ℕ} → upto ≡ row left base b - 1 →
            {need' sets' : List ℕ} {claims' : List Claimed} {out' : List ℕ} {at' many' : ℕ} →
            Gives ps (nest_in nest).deps
            (λ T. GiveGround nest ps own left kids need sets d e T × (cost ≡ few_for T (head d b upto)))
            (λ T. head d b upto ∷ []) out at claims many out' at' claims' many' →
            need' ≡ need → sets' ≡ sets → length claims' ≡ length claims → length out' ≡ length out →
            many' ≡ many + 1 →
            Rowing nest ps own left kids base need₀ sets₀ claims₀ d e cost out₀ at₀ many₀ need' sets' claims' out' at'
            many' (b - 1)
        row_on z {upto} y g a c l o m =
            record {
              high = omega (arith, p.high);
              need_is = a ∙ p.need_is;
              sets_is = c ∙ p.sets_is;
              claims_size = l ∙ p.claims_size;
              out_size = o ∙ p.out_size;
              fewer = omega (arith, p.fewer);
              done = λ T. p.done T ++ (head d b upto ∷ []);
              gives =
                  gives_then p.gives (gives_under (λ T r. (rw (p.need_is, p.sets_is) r.ground, few T r upto)) g);
              rest = λ T r.
                  append_assoc (p.done T) (head d b upto ∷ []) (row_heads T d (b - 1)) ∙
                  ap (λ (x : List Head). p.done T ++ x) (rw (y, before_is (row left base b)) (heads T r true z)) ∙
                  p.rest T r;
            }
