-- The laws of a turn, as the loop over the lines uses them: from what its tables are to each need.
-- Main statements: `points_some`, `first_room`, `lines_begun`; `open_small`, `closing_room`, `striking_room`;
-- `asked_tables`, `step_room`, `stepped_as`; `end_holds`, `end_lacks`; `tables-of`, `judgeable`.
use mathlib.Core.Path.{◌≡◌, refl, sym, ap, ◌∙◌, subst}
use Rattle.std.proofs.Common.{Option, None, Some, Ok}
use Rattle.std.specs.Option.{is_some, IfSome}
use mathlib.Core.Bool.{Bool, true, false, ◌&&◌, ◌||◌, not}
use mathlib.Core.List.{List, [], ◌∷◌}
use Prim.Native.Nat.{ℕ, zero, suc, ◌-◌, ◌≤◌, ◌<◌}
use native.Mathlib.Omega.{arith}
use lib.Dec.{eqb, ltb}
use lib.ListN.{length, take, drop, length-take}
use lib.Seq.{get_or-take}
use borrow.Author.Tests.{ltb-true}
use Rattle.laws.specs.Choice.{pick, is_in}
use Rattle.laws.specs.Entries.{at}
use Rattle.paper_nests.specs.declared.Nest as DN
use Rattle.paper_nests.specs.declared.Dependence as DE
use Rattle.paper_nests.specs.Kinds.{POINTS}
use Rattle.paper_nests.specs.Nests.{Nest, Dep}
use Rattle.paper_nests.specs.Loops.{is_do, end_of, HasEnds}
use Rattle.paper_nests.specs.Valid.{is_shape, is_valid}
use Rattle.paper_nests.specs.Stored.{nest_in, dep_in, IsCounted}
use Rattle.paper_nests.proofs.Deps.{valid_is}
use Rattle.paper_nests.proofs.Stored.{counted_many}
use Rattle.paper_nests.proofs.Levels.{point_in, starts_with_do}
use Rattle.paper_lines.specs.Lines.{lines_of}
use Rattle.paper_lines.specs.Reading.{line_at}
use Rattle.paper_nests.proofs.Loops.{owner_at_most, end-after}
use Rattle.paper_gaps.specs.Lies.{WithEnds, LiesTo, EndsIn}
use Rattle.paper_gaps.proofs.Lies as L
use Rattle.paper_placements.specs.declared.Placement.{Placement}
use Rattle.paper_placements.specs.Placements.{are_gaps, loop_count}
use Rattle.paper_placements.specs.Words.{holds}
use Rattle.paper_counts.specs.Tables.{OwnersAre, CountsAre}
use Rattle.argue_claims.specs.Arguments.{greatest, begun, dep_at, st, step}
use Rattle.argue_texts.specs.declared.Claimed.{Claimed}
use Rattle.argue_texts.specs.ArgumentTexts.{argument_fault, parts_of}
use Rattle.argue_texts.specs.Judged.{judged}
use Rattle.argue_texts.specs.declared.Set as DS
use Rattle.argue_texts.specs.declared.Set.TheVariants as SV
use Rattle.argue_texts.specs.Parts.{set_in, led_in}
use Rattle.argue_weigh.specs.declared.Ended.{Ended}
use Rattle.argue_weigh.specs.declared.Asked.{Asked}
use Rattle.argue_weigh.specs.declared.Open.{Open}
use Rattle.argue_weigh.specs.declared.Taken.{Taken}
use Rattle.argue_weigh.specs.Striking.{StrikingRoom}
use Rattle.argue_weigh.specs.Taking.{StepRoom, StepSays, OpenTables, AskedTables, CountTables}
use Rattle.argue_weigh.proofs.Taking.{known_ends}
use Rattle.argue_judge.specs.Starts.{FirstRoom, FirstStruck}
use Rattle.argue_judge.specs.Ends.{low_by, shown_by, ClosingRoom, all_low_in}
use Rattle.argue_judge.specs.Opened.{open_of, ended_at, dependence_of, asked_of}
use Rattle.argue_judge.specs.Judging.{NestTables, Judgeable}
use Rattle.argue_judge.proofs.Starts.{first_excludes}
use Rattle.argue_judge.proofs.Ends.{count_few}
use Rattle.argue_judge.proofs.Closing.{shape, head_do, head_small, head_end, end_last}
use Rattle.argue_judge.proofs.Turns.{Judges, judges_begun, few_sets, few_times, end_shown}

-- nothing named, nothing gone
pub count_begun
    : (n : Nest) (key : List ℕ) (last : ℕ) (times gone : List ℕ)
    → ((g : ℕ) → at times g ≡ 0)
    → ((g : ℕ) → holds gone g ≡ false)
    → CountTables n key begun last 0 0 times gone
count_begun n key last times gone z none =
    record {
      fine = refl;
      c_is = refl;
      times_are = λ g p q. z g;
      beyond = refl;
      few = λ g. omega (arith, z g);
      gone_is = none;
    }

dep_listed : (es : List Dep) (m : ℕ) (e : Dep) → drop m es ≡ e ∷ drop (suc m) es → e ≡ dep_at es m
dep_listed [] zero e h = absurd (omega (arith, ap length h))
dep_listed [] (suc m) e h = absurd (omega (arith, ap length h))
dep_listed (x ∷ es) zero e h = sym (ap (λ (l : List Dep). dep_at l 0) h)
dep_listed (x ∷ es) (suc m) e h = dep_listed es m e h

module _ {nest : DN.Nest} {ps owners ends counts barred : List ℕ}
    (w : Judgeable nest ps owners ends counts barred) where
  -- there is a first point, and no more than the tables hold
  pub points_some : length ps ≡ suc (length ps - 1)
  points_some = ap length w.points_are ∙ w.tables.paper.all

  pub points_few : length ps ≤ POINTS
  points_few = omega (arith, points_some, w.tables.small)

  pub first_room : FirstRoom (length ps) owners counts
  first_room =
      record {
        small = points_few;
        owners_long = w.owners_long;
        counts_long = w.counts_long;
        owners_in = λ g p.
            omega (
              arith,
              w.tables.paper.owners_are g (omega (arith, p)),
              owner_at_most (nest_in nest).points g,
              p,
              points_few,
            );
      }

  -- before the first line
  pub lines_begun
      : (s : List ℕ) (head : Claimed) (low gone : List ℕ) (claims : List Claimed) (struck times : List ℕ)
      → head.d ≡ 0
      → head.a ≡ 0
      → head.b ≡ 0
      → ((i : ℕ) → holds low i ≡ false)
      → ((i : ℕ) → holds gone i ≡ false)
      → FirstStruck (length ps) barred owners counts struck
      → ((g : ℕ) → at times g ≡ 0)
      → (key : List ℕ)
      → NestTables (nest_in nest) key (length ps - 1) ends owners counts
      → Judges (nest_in nest) key s (length ps - 1) ends head None 0 0 0 low gone claims struck times 0 1
  lines_begun s head low gone claims struck times d a b lows goes first zeros key t =
      judges_begun (nest_in nest) key s t head low gone claims struck times d a b lows
      (first_excludes (nest_in nest) key (length ps) barred owners counts struck
      (record {
        shape = shape t;
        count_is = ap length (sym w.points_are);
        small = points_few;
        barred_are = w.barred_are;
        owners_are = λ g p. t.paper.owners_are g (omega (arith, p));
        counts_are = λ e p. t.counts_are e (omega (arith, p, points_few));
      }) first)
      (count_begun (nest_in nest) key (length ps - 1) times gone zeros goes)

  -- a step's set, by the dependences that the code has
  module _ (set : DS.Set) (by : Option ℕ) {deps : List DE.Dependence} (deps_are : deps ≡ take nest.many nest.deps) where
    with_ends : WithEnds nest ends
    with_ends =
        record { counted = w.counted; valid = w.tables.paper.valid; ends_are = w.tables.paper.ends_are }

    deps_long : length deps ≡ nest.many
    deps_long = omega (arith, ap length deps_are, length-take nest.many nest.deps, counted_many nest w.counted)

    dep_is : (m : ℕ) → m < nest.many → (ended_at deps ends m).e ≡ L.dep_at nest m
    dep_is m q = rw deps_are (get_or-take nest.many nest.deps m (record { kind = 0; d = 0; s = 0; t = 0 }) q)

    there
        : (m : ℕ)
        → set_in set ≡ suc (suc m)
        → is_some (dependence_of set deps ends) ≡ ltb m (length (nest_in nest).deps)
    there m p = go set p
      where
        some : (b : Bool) (x : Ended) → is_some (pick b (Some x) None) ≡ b
        some true x = refl
        some false x = refl

        go
            : (q : DS.Set)
            → set_in q ≡ suc (suc m)
            → is_some (dependence_of q deps ends) ≡ ltb m (length (nest_in nest).deps)
        go SV.From p = absurd (omega (arith, p))
        go SV.Upto p = absurd (omega (arith, p))
        go (SV.Dependence k) p =
            let same : k ≡ m = omega (arith, p) in
            let all : length deps ≡ length (nest_in nest).deps = deps_long ∙ w.counted.many_is in
            some (ltb k (length deps)) (ended_at deps ends k) ∙ rw (same, all) refl

    -- what holds of each dependence holds of the set's
    of_each
        : (m : ℕ) (fits : Ended → Type 0)
        → set_in set ≡ suc (suc m)
        → (m < nest.many → fits (ended_at deps ends m))
        → IfSome (dependence_of set deps ends) fits
    of_each m fits p h = go set p
      where
        go : (q : DS.Set) → set_in q ≡ suc (suc m) → IfSome (dependence_of q deps ends) fits
        go SV.From p = absurd (omega (arith, p))
        go SV.Upto p = absurd (omega (arith, p))
        go (SV.Dependence k) p = found (ltb k (length deps)) refl
          where
            same : m ≡ k
            same = omega (arith, p)

            found : (b : Bool) → ltb k (length deps) ≡ b → IfSome (pick b (Some (ended_at deps ends k)) None) fits
            found false z = tt
            found true z =
                let in-all : m < nest.many = omega (arith, ltb-true k (length deps) z, deps_long, same) in
                subst (λ (i : ℕ). fits (ended_at deps ends i)) same (h in-all)

    pub asked_tables : (key : List ℕ) → AskedTables (nest_in nest) key (asked_of set by deps ends)
    asked_tables key =
        record {
          there_is = there;
          dep_is = λ m p. of_each m (λ (x : Ended). dep_in x.e ≡ dep_at (nest_in nest).deps m) p
              (λ q. ap dep_in (dep_is m q) ∙
              dep_listed (nest_in nest).deps m (dep_in (L.dep_at nest m)) (L.found_at with_ends q));
          end_is = λ m p. of_each m (λ (x : Ended). EndsIn (nest_in nest).points x.e x.end) p
              (λ q. subst (λ (d : DE.Dependence). EndsIn (nest_in nest).points d (at ends d.d)) (sym (dep_is m q))
              (L.found_ends with_ends q));
        }

    pub asked_lies
        : (m : ℕ)
        → set_in set ≡ suc (suc m)
        → IfSome (dependence_of set deps ends) (λ (x : Ended). LiesTo x.e x.end)
    asked_lies m p = of_each m (λ (x : Ended). LiesTo x.e x.end) p
        (λ q. subst (λ (d : DE.Dependence). LiesTo d (at ends d.d)) (sym (dep_is m q)) (L.found_lies with_ends q))

  module _ {s : List ℕ} (sound : (argument_fault s).number ≡ 0) {head : Claimed} {begins : Option ℕ} {c by known : ℕ}
      {low gone : List ℕ} {claims : List Claimed} {struck times : List ℕ} {place line : ℕ}
      (j : Judges (nest_in nest) w.key s (length ps - 1) ends head begins c by known low gone claims struck
      times place line) where
    head_of_one : is_do (nest_in nest).points head.d ≡ true
    head_of_one = head_do w.tables j.stands

    -- the open claim's loop, as the code has it
    module _ (o : Open) (oe : o ≡ open_of ends head) where
      d_is : o.d ≡ head.d
      d_is = ap (λ (p : Open). p.d) oe

      e_end : o.e ≡ end_of (nest_in nest).points head.d
      e_end = ap (λ (p : Open). p.e) oe ∙ head_end w.tables j.stands

      pub open_small : o.d < POINTS
      open_small = omega (arith, d_is, head_small w.tables j.stands)

      rises : o.d < o.e
      rises = omega (arith, d_is, e_end, end-after (nest_in nest).points (shape w.tables) head.d head_of_one)

      stops : o.e ≤ length ps - 1
      stops = omega (arith, e_end, end_last w.tables head.d head_of_one)

      pub striking_room : length times ≡ POINTS → length struck ≡ POINTS → StrikingRoom o.d o.e owners times struck
      striking_room tl sl =
          record {
            rises = omega (arith, rises);
            ends = omega (arith, stops, w.tables.small);
            owners_long = w.owners_long;
            times_long = tl;
            struck_long = sl;
          }

      pub closing_room : ClosingRoom (length ps - 1) c (at counts o.d) times
      closing_room =
          let few : loop_count (nest_in nest) w.key o.d ≤ length (nest_in nest).points =
          omega (
            arith,
            count_few (nest_in nest) 0 (length (nest_in nest).points) w.key o.d (omega arith)
                w.tables.gaps,
          ) in
          record {
            small = w.tables.small;
            few_sets = few_sets (nest_in nest) w.key s w.tables sound j;
            few_times = few_times (nest_in nest) w.key s w.tables sound j;
            few_barriers =
                omega
                (arith, w.tables.counts_are o.d open_small, few, w.tables.paper.all, w.tables.small);
          }

      pub step_room
          : (q : Asked)
          → ((m : ℕ) → set_in q.set ≡ suc (suc m) → IfSome q.dependence (λ (x : Ended). LiesTo x.e x.end))
          → o.a < POINTS
          → o.b < POINTS
          → length times ≡ POINTS
          → length struck ≡ POINTS
          → StepRoom (length ps - 1) o q c (take known claims) ends owners struck times
      step_room q lies al bl tl sl =
          record {
            naming =
                record {
                  small = w.tables.small;
                  owners_long = w.owners_long;
                  struck_long = sl;
                  times_long = tl;
                  few = few_times (nest_in nest) w.key s w.tables sound j;
                };
            rises = rises;
            ends_there = stops;
            from_low = al;
            upto_low = bl;
            few_sets = few_sets (nest_in nest) w.key s w.tables sound j;
            ends_long = w.ends_long;
            loops_end = known_ends w.tables.paper j.stands.knows;
            lies = lies;
          }

  -- ---- the end of the text, and the loop of a claim, by the points that the code has

  module _ {key s : List ℕ} (t : NestTables (nest_in nest) key (length ps - 1) ends owners counts)
      (sound : (argument_fault s).number ≡ 0) {head : Claimed} {begins : Option ℕ} {c by known : ℕ}
      {low gone : List ℕ} {claims : List Claimed} {struck times : List ℕ} {place line : ℕ}
      (j : Judges (nest_in nest) key s (length ps - 1) ends head begins c by known low gone claims struck
      times place line) (h : line_at s place ≡ Ok None) (o : Open) (oe : o ≡ open_of ends head) (r : Bool)
      (e : r ≡ (not (is_some begins) ||
      shown_by (low_by o.a o.b) c (greatest (at times) (length ps - 1)) (at counts o.d)))
      (z : r ≡ true) (ws : List ℕ)
      (lw : (i : ℕ) → holds ws i ≡
      ((is_some begins && (low_by head.a head.b && eqb i head.d)) || holds low i))
      (b : Bool) (q : b ≡ all_low_in ps counts ws (length ps)) where
    ended_by : pick b 0 line ≡ judged (nest_in nest) key (parts_of (lines_of s))
    ended_by =
        end_shown (nest_in nest) key s t sound j h o oe r e z ws lw b
        (subst (λ (p : List ℕ). b ≡ all_low_in p counts ws (length p)) w.points_are q)

    pub end_holds : b ≡ true → 0 ≡ judged (nest_in nest) key (parts_of (lines_of s))
    end_holds y = sym (rw y refl) ∙ ended_by

    pub end_lacks : b ≡ false → line ≡ judged (nest_in nest) key (parts_of (lines_of s))
    end_lacks y = sym (rw y refl) ∙ ended_by

  pub is_loop : (b : Bool) (d : ℕ) (y : Bool) → b ≡ is_do ps d → b ≡ y → is_do (nest_in nest).points d ≡ y
  is_loop b d y e h = ap (λ (p : List ℕ). is_do p d) (sym w.points_are) ∙ sym e ∙ h

  -- ---- a step, as it was asked

  module _ {key s : List ℕ} (t : NestTables (nest_in nest) key (length ps - 1) ends owners counts) {head : Claimed}
      {begins : Option ℕ} {c by known : ℕ} {low : List ℕ} {claims : List Claimed} {struck times : List ℕ}
      {gone : Placement} {place line : ℕ}
      (j : Judges (nest_in nest) key s (length ps - 1) ends head begins c by known low gone.words claims
      struck times place line) (o : Open) (oe : o ≡ open_of ends head) (set : DS.Set) (led : Option ℕ)
      (led_is : led_in led ≡ by) {deps : List DE.Dependence} (deps_are : deps ≡ take nest.many nest.deps) (q : Asked)
      (qe : q ≡ asked_of set led deps ends) (new : List ℕ) (r : Option Taken)
      (says : StepSays (length ps - 1) o q c gone (take known claims) ends owners struck times new r) where
    pub stepped_as
        : (is_some r ≡ (step (nest_in nest) key j.now.open_is j.now.known (st (set_in set) by) j.now.count).fine) ×
        IfSome r
        (λ (v : Taken). CountTables (nest_in nest) key
        (step (nest_in nest) key j.now.open_is j.now.known (st (set_in set) by) j.now.count) (length ps - 1)
        (suc j.steps) v.c new v.gone.words)
    stepped_as =
        let told : StepSays (length ps - 1) o (asked_of set led deps ends) c gone (take known claims) ends owners struck
        times new r =
        subst
        (λ (p : Asked). StepSays (length ps - 1) o p c gone (take known claims) ends owners struck times new r) qe
        says in
        rw (← led_is)
        (told (nest_in nest) key j.now.open_is j.now.known j.now.count j.steps t.paper j.stands.knows
        (subst (OpenTables (nest_in nest) key j.now.open_is) (sym oe) j.stands.opens)
        (asked_tables set led deps_are key) j.stands.counts)

-- ---- the tables of a nest and a placement of its gaps

module _ (nest : DN.Nest) where
  pub nest_shape : is_valid (nest_in nest) ≡ true → is_shape (nest_in nest).points ≡ true
  nest_shape v = (valid_is (nest_in nest) v).shape

  pub points_fit : IsCounted nest → length (nest_in nest).points ≤ POINTS
  points_fit c = omega (arith, c.count_is, c.count_fits)

  -- `ps` are its points, as the code has them
  module _ (key owners ends counts : List ℕ) (counted : IsCounted nest) (valid : is_valid (nest_in nest) ≡ true)
      (gaps : are_gaps (nest_in nest) key ≡ true) (ps : List ℕ) (same : ps ≡ (nest_in nest).points)
      (owns : OwnersAre ps owners) (has_ends : HasEnds ps ends) (counts_are : CountsAre ps key counts) where
    pub tables-of : NestTables (nest_in nest) key (length ps - 1) ends owners counts
    tables-of =
        let some : 0 < length (nest_in nest).points =
        point_in (nest_in nest).points 0 0 (starts_with_do (nest_in nest).points (nest_shape valid)) in
        let long : length ps ≡ length (nest_in nest).points = ap length same in
        let owned : OwnersAre (nest_in nest).points owners = rw same at owns in
        record {
          paper =
              record {
                valid = valid;
                all = omega (arith, some, long);
                ends_are = rw same at has_ends;
                owners_are = λ g p. owned g (omega (arith, p, some, long));
              };
          small = omega (arith, points_fit counted, some, long);
          counts_are = counts_are (nest_in nest) (sym same);
          gaps = gaps;
        }

    pub judgeable
        : (barred : List ℕ)
        → ((g : ℕ) → holds barred g ≡ is_in g (nest_in nest).barred)
        → length owners ≡ POINTS
        → length ends ≡ POINTS
        → length counts ≡ POINTS
        → Judgeable nest ps owners ends counts barred
    judgeable barred bars ol el cl =
        record {
          key = key;
          counted = counted;
          points_are = same;
          tables = tables-of;
          barred_are = bars;
          owners_long = ol;
          ends_long = el;
          counts_long = cl;
        }
