-- The turns of settling: the loops inside d that lie before i are settled.
-- Main definition: `Settling`. Main statements: `begin`, `on_plain`, `child_asked`, `child_long`, `child_short`,
-- `on_child`.
use mathlib.Core.Path.{◌≡◌, refl, sym, ◌∙◌, ap}
use mathlib.Core.Bool.{Bool, true, false, ◌||◌}
use mathlib.Core.List.{List}
use mathlib.Core.Logic.{⊎_elim}
use Prim.Native.Nat.{ℕ, zero, suc, ◌+◌, ◌-◌, ◌*◌, ◌≤◌, ◌<◌}
use native.Mathlib.Numerals.{add-one}
use native.Mathlib.Omega.{arith}
use lib.Dec.{ltb}
use lib.ListN.{length, get_or}
use borrow.Author.Tests.{lt-ltb, eqb-true, eq-eqb, ne_eqb}
use Rattle.laws.specs.Bits.{one}
use Rattle.laws.specs.Choice.{first_of}
use Rattle.laws.specs.Entries.{at}
use Rattle.laws.proofs.Connectives.{or_off}
use Rattle.laws.proofs.Ors.{or_swap}
use Rattle.laws.proofs.Tests.{le_or, lt_by, never_both, test}
use Rattle.paper_nests.specs.Kinds.{POINTS}
use Rattle.paper_nests.specs.Loops.{is_do, is_end, end_of, owner_of}
use Rattle.paper_nests.specs.Valid.{is_shape}
use Rattle.paper_nests.proofs.Loops.{end-after, end_there, end_is_end, owner-inside, end_has_do}
use Rattle.paper_nests.proofs.Gaps.{Child, owner_after_do, owner_after_plain, owner_after_child, child_ends_inside}
use Rattle.plan_method.specs.Sweep.{Lines, Tables, child_some, IsTable}
use Rattle.plan_method.specs.Home.{loops_in}
use Rattle.plan_sweeps.specs.Listed.{row}
use Rattle.plan_settle.specs.Settled.{HasHeight, LinesAt, Rows, Fronts, KeptColumns, Unset, SettleSays}
use Rattle.plan_settle.proofs.Heights.{child_height}
use Rattle.plan_settle.proofs.Calls.{Asked, Call}
use Rattle.plan_settle.proofs.Some.{some_none, some_plain, some_child}

pub record Sofar (ps : List ℕ) (N : Lines) (T : Tables) (left choice : List ℕ) (d some i : ℕ) : Type 0 where
  pub rows : Rows ps T left choice (suc d) i
  pub some_is : ltb 0 some ≡ (N.has d || child_some (loops_in ps) T d i)

-- from the tables at the start to those at the gap i of d
pub record Settling (ps reach limit has left₀ choice₀ : List ℕ) (d : ℕ) (left choice : List ℕ) (some i : ℕ) :
    Type 0 where
  pub from : d < i
  pub high : i ≤ end_of ps d
  pub owner : owner_of ps i ≡ d
  pub left_length : length left ≡ length left₀
  pub choice_length : length choice ≡ length choice₀
  pub left_kept : KeptColumns left₀ left d i
  pub choice_kept : KeptColumns choice₀ choice d i
  pub fronts : Fronts ps left (suc d) i
  pub sofar
      : (N : Lines) (T : Tables)
      → IsTable (loops_in ps) N T
      → LinesAt ps N reach limit has
      → Sofar ps N T left choice d some i

-- there is something, as a number that is not 0
one_above : (b : Bool) → ltb 0 (one b) ≡ b
one_above true = refl
one_above false = refl

first_above : (a b : ℕ) → ltb 0 (first_of a b) ≡ (ltb 0 a || ltb 0 b)
first_above zero b = refl
first_above (suc a) b = rw (lt-ltb 0 (suc a) (omega arith)) refl

-- columns, and more of them further right
columns_more : (xs ys : List ℕ) (d i : ℕ) → KeptColumns xs ys d i → KeptColumns xs ys d (suc i)
columns_more xs ys d i p r q n o = p r q n (λ z. omega (arith, o z))

columns_join : (xs ys zs : List ℕ) (d a b : ℕ) → d ≤ a → a ≤ b → KeptColumns xs ys d a → KeptColumns ys zs a b →
    KeptColumns xs zs d (suc b)
columns_join xs ys zs d a b h k p s r q n o =
    s r q n (λ z. omega (arith, o (omega arith))) ∙ p r q n (λ z. omega (arith, o z))

-- what is 0 further right stays 0
unset_kept : (xs ys : List ℕ) (d i e f : ℕ) → d ≤ i → e ≤ f → f < POINTS → Unset xs d f → KeptColumns xs ys d i →
    Unset ys i e
unset_kept xs ys d i e f a b c u p h q low high x y =
    p h q (omega arith) (λ z. x) ∙ u h q low high (omega arith) (omega arith)

module _
    {ps own ends reach limit has left₀ choice₀ : List ℕ} {d h : ℕ}
    (a : Call ps own ends reach limit has left₀ choice₀ d h)
  where
    abbrev shape : is_shape ps ≡ true
    shape = a.charts.shape

    pub begin : Settling ps reach limit has left₀ choice₀ d left₀ choice₀ (at has d) (d + 1)
    begin =
        rw (add-one d)
        record {
          from = omega arith;
          high = end-after ps shape d a.is-do;
          owner = owner_after_do ps shape d a.is-do;
          left_length = refl;
          choice_length = refl;
          left_kept = λ r q m n. refl;
          choice_kept = λ r q m n. refl;
          fronts = λ l k q i m n x y z. absurd (omega arith);
          sofar = sofar;
        }
      where
        sofar
            : (N : Lines) (T : Tables) → IsTable (loops_in ps) N T → LinesAt ps N reach limit has
            → Sofar ps N T left₀ choice₀ d (at has d) (suc d)
        sofar N T t n =
            record {
              rows = record {
                left_is = λ l k q i m n x y z. absurd (omega arith);
                choice_is = λ l k q i m n x y z. absurd (omega arith);
              };
              some_is = rw (
                n.has_is d a.is-do,
                one_above (N.has d),
                some_none ps shape T d (suc d) (omega arith),
              ) (sym (or_off (N.has d)));
            }

    module _
        {left choice : List ℕ} {some i : ℕ} (s : Settling ps reach limit has left₀ choice₀ d left choice some i)
        (before : i < at ends d)
      where
        -- a gap of d that is not its last lies before no ENDDO
        no_end : is_end ps i ≡ false
        no_end = ⊎_elim
            (λ (z : is_end ps i ≡ true). absurd (omega (arith, rw s.owner at (end_has_do ps shape i z))))
            (λ (z : is_end ps i ≡ false). z)
            (test (is_end ps i))

        within : i < end_of ps d
        within = omega (arith, a.e_is)

        there : i < length ps
        there = omega (arith, a.short)

        pub on_plain : (get_or ps i 0 ≡ 1 → ⊥) → Settling ps reach limit has left₀ choice₀ d left choice some (i + 1)
        on_plain plain =
            rw (add-one i)
            record {
              from = omega (arith, s.from);
              high = within;
              owner = owner_after_plain ps shape i (omega (arith, a.short)) no-do no_end ∙
                  s.owner;
              left_length = s.left_length;
              choice_length = s.choice_length;
              left_kept = columns_more left₀ left d i s.left_kept;
              choice_kept = columns_more choice₀ choice d i s.choice_kept;
              fronts = λ l k q j m b x y z. s.fronts l k q j m (earlier l j b) x y z;
              sofar = λ N T t n.
                  let r : Sofar ps N T left choice d some i = s.sofar N T t n in
                  record {
                    rows =
                        record {
                          left_is = λ l k q j m b x y z. r.rows.left_is l k q j m (earlier l j b) x y z;
                          choice_is = λ l k q j m b x y z. r.rows.choice_is l k q j m (earlier l j b) x y z;
                        };
                    some_is = r.some_is ∙ rw (some_plain ps shape T d i no-do) refl;
                  };
            }
          where
            no-do : is_do ps i ≡ false
            no-do = ne_eqb (get_or ps i 0) 1 plain

            earlier : (l : ℕ) → is_do ps l ≡ true → l < suc i → l < i
            earlier l j b = lt_by λ z. let y : l ≡ i = omega arith in never_both (rw y at j) no-do

        -- a loop inside d before i ends before i
        ends_before : (l : ℕ) → is_do ps l ≡ true → d < l → l < i → end_of ps l < i
        ends_before l j m b = lt_by λ z. omega (arith, owner-inside ps shape l i j b z, s.owner)

        -- a loop directly inside d
        module _ (do_there : get_or ps i 0 ≡ 1) where
          loop : is_do ps i ≡ true
          loop = eq-eqb (get_or ps i 0) 1 do_there

          child : Child ps d (end_of ps i) i
          child = record { loop = loop; inside = s.from; ends = refl; owned = s.owner }

          inside : end_of ps i < end_of ps d
          inside = child_ends_inside ps shape d i child

          below : d ≤ i
          below = omega (arith, s.from)

          inner : end_of ps i ≤ end_of ps d
          inner = omega (arith, inside)

          few : end_of ps d < POINTS
          few = omega (arith, end_there ps shape d a.is-do, a.charts.few)

          low : HasHeight ps i (h - 1)
          low = child_height ps shape d i h a.is-do loop s.from s.owner a.height

          -- what settling it requires
          pub child_asked : Asked ps own ends reach limit has left choice i (h - 1)
          child_asked = (
            a.charts,
            (
              record {
                reach_room = a.room.reach_room;
                limit_room = a.room.limit_room;
                has_room = a.room.has_room;
                left_room = omega (arith, s.left_length, a.room.left_room);
                choice_room = omega (arith, s.choice_length, a.room.choice_room);
              },
              (
                loop,
                (
                  low,
                  (
                    unset_kept left₀ left d i (end_of ps i) (end_of ps d) below inner few a.left_unset
                        s.left_kept,
                    unset_kept choice₀ choice d i (end_of ps i) (end_of ps d) below inner few a.choice_unset
                        s.choice_kept,
                  ),
                ),
              ),
            ),
          )

          pub child_long : i < at ends i
          child_long = omega (arith, a.charts.ends_is i loop, end-after ps shape i loop)

          pub child_short : at ends i < length ps
          child_short = omega (arith, a.charts.ends_is i loop, end_there ps shape i loop)

          pub on_child
              : {left' choice' : List ℕ} {some' : ℕ}
              → length left' ≡ length left
              → length choice' ≡ length choice
              → SettleSays ps reach limit has left choice left' choice' i
              → some' ≡ first_of (row left' (h * 256 - 256) (i + 1)) some
              → Settling ps reach limit has left₀ choice₀ d left' choice' some' (at ends i + 1)
          on_child {left'} {choice'} {some'} left_same choice-same z f =
              rw (a.charts.ends_is i loop, add-one (end_of ps i))
              record {
                from = omega (arith, s.from, end-after ps shape i loop);
                high = inside;
                owner = owner_after_child ps shape d i child;
                left_length = left_same ∙ s.left_length;
                choice_length = choice-same ∙ s.choice_length;
                left_kept = columns_join left₀ left left' d i (end_of ps i) (omega (arith, s.from))
                    (omega (arith, end-after ps shape i loop)) s.left_kept z.left_kept;
                choice_kept = columns_join choice₀ choice choice' d i (end_of ps i) (omega (arith, s.from))
                    (omega (arith, end-after ps shape i loop)) s.choice_kept z.choice_kept;
                fronts = λ l k q j m b c e u. ⊎_elim
                    (λ (y : i ≤ l). z.fronts l k q j y (later l j b) c e u)
                    (λ (y : l < i). rw (z.left_kept k q (narrow l q j u)
                    (λ v. absurd (omega (arith, ends_before l j m y)))) (s.fronts l k q j m y c e u))
                    (le_or i l);
                sofar = sofar;
              }
            where
              -- a loop of i's range is i or lies inside
              later : (l : ℕ) → is_do ps l ≡ true → l < suc (end_of ps i) → l < end_of ps i
              later l j b = lt_by λ y.
                  let e : l ≡ end_of ps i = omega arith in
                  let u : get_or ps l 0 ≡ 1 = eqb-true (get_or ps l 0) 1 j in
                  let v : get_or ps l 0 ≡ 2 = eqb-true (get_or ps l 0) 2 (rw e (end_is_end ps shape i loop)) in
                  omega arith

              narrow : (l q : ℕ) → is_do ps l ≡ true → q ≤ end_of ps l → q < POINTS
              narrow l q j b = omega (arith, end_there ps shape l j, a.charts.few)

              sofar
                  : (N : Lines) (T : Tables) → IsTable (loops_in ps) N T → LinesAt ps N reach limit has
                  → Sofar ps N T left' choice' d some' (suc (end_of ps i))
              sofar N T t n =
                  record {
                    rows =
                        record {
                          left_is = λ l k q j m b c e u. ⊎_elim
                              (λ (y : i ≤ l). x.left_is l k q j y (later l j b) c e u)
                              (λ (y : l < i). z.left_kept k q (narrow l q j u)
                              (λ v. absurd (omega (arith, ends_before l j m y))) ∙ r.rows.left_is l k q j m y c e u)
                              (le_or i l);
                          choice_is = λ l k q j m b c e u. ⊎_elim
                              (λ (y : i ≤ l). x.choice_is l k q j y (later l j b) c e u)
                              (λ (y : l < i). z.choice_kept k q (narrow l q j u)
                              (λ v. absurd (omega (arith, ends_before l j m y))) ∙ r.rows.choice_is l k q j m y c e u)
                              (le_or i l);
                        };
                    some_is = ap (ltb 0) f ∙ first_above first some ∙
                        rw (
                          here,
                          r.some_is,
                          some_child ps shape T d i loop s.from s.owner
                              (end-after ps shape i loop),
                        )
                        (or_swap (ltb 0 (T.left i (suc i))) (N.has d) (child_some (loops_in ps) T d i));
                  }
                where
                  r : Sofar ps N T left choice d some i
                  r = s.sofar N T t n

                  x : Rows ps T left' choice' i (end_of ps i)
                  x = z.rows N T t n

                  first : ℕ
                  first = row left' (h * 256 - 256) (i + 1)

                  here : first ≡ T.left i (suc i)
                  here =
                      let u : h * 256 - 256 ≡ (h - 1) * 256 = omega (arith, a.low) in
                      rw (u, add-one i) (x.left_is i (h - 1) (suc i) loop (omega arith) (end-after ps shape i loop)
                      low (omega arith) (end-after ps shape i loop))
