-- An argument text judged line by line: what a turn keeps, and one law for each way through a turn.
-- Main definitions: `Judges`, `JudgesAll`, `Turn`. Main statements: `judges_begun`; `end_unshown`, `end_shown`; of a
-- turn that comes to a frame `claim_unshown`, `claim_of_none`, `claim_on`; `Led-on`; `step_not`, `step_on`.
use mathlib.Core.Path.{◌≡◌, refl, sym, ap, ◌∙◌, subst}
use Rattle.std.specs.Option.{is_some}
use Rattle.std.proofs.Common.{Option, Some, None, Ok, Err}
use mathlib.Core.Bool.{Bool, true, false, ◌&&◌, ◌||◌, not}
use mathlib.Core.List.{List, [], ◌∷◌}
use mathlib.Core.Logic.{◌⊎◌, inl, inr, ⊎_elim}
use Prim.Native.Nat.{ℕ, zero, suc, ◌+◌, ◌≤◌, ◌<◌}
use native.Mathlib.Numerals.{add-one}
use native.Mathlib.Omega.{arith}
use lib.Dec.{eqb}
use lib.ListN.{length, take, drop, set, length-append, length-take}
use borrow.Author.Tests.{eq-eqb, ne_eqb}
use Rattle.laws.specs.Choice.{pick}
use Rattle.laws.specs.Entries.{at}
use Rattle.laws.proofs.Tests.{never}
use Rattle.paper_refusals.specs.declared.Refusal.{Refusal}
use Rattle.paper_nests.specs.Nests.{Nest}
use Rattle.paper_nests.specs.Loops.{is_do}
use Rattle.paper_lines.specs.declared.Frame.{Frame}
use Rattle.paper_lines.specs.Lines.{lines_of}
use Rattle.paper_lines.specs.Reading.{line_at}
use Rattle.paper_nests.proofs.Levels.{starts_with_do}
use Rattle.paper_placements.specs.Words.{holds}
use Rattle.argue_claims.specs.Arguments.{Count, greatest, counted, begun, claim, st, step, known_of, all_low}
use Rattle.argue_texts.specs.declared.Claimed.{Claimed}
use Rattle.argue_texts.specs.declared.Set as DS
use Rattle.argue_texts.specs.declared.Part as DP
use Rattle.argue_texts.specs.declared.Part.TheVariants as PV
use Rattle.argue_texts.specs.ArgumentTexts.{CLAIMS, STEPS, progress, after, argument_fault, part_fault}
use Rattle.argue_texts.specs.ArgumentTexts.{parts_of, rest_of}
use Rattle.argue_texts.specs.Parts.{set_in, part_in, IsPart}
use Rattle.argue_texts.specs.Judged.{Judging, unbegun, led_by, closes, known_now, opened, counting, stepped, judge_from}
use Rattle.argue_texts.specs.Judged.{judged}
use Rattle.argue_texts.proofs.Walking.{Walk, walk_begun, walk_on, never_bad, part_fine, next_inside, parts_end}
use Rattle.argue_texts.proofs.Walking.{parts_on}
use Rattle.argue_texts.proofs.PartFaults.{claims_fine, names_fine, unknown_fault}
use Rattle.argue_weigh.specs.declared.Open.{Open}
use Rattle.argue_weigh.specs.Excluding.{Excludes}
use Rattle.argue_weigh.specs.Taking.{KnownTables, CountTables}
use Rattle.argue_judge.specs.Ends.{low_by, shown_by, Closed, all_low_in}
use Rattle.argue_judge.specs.Opened.{open_of}
use Rattle.argue_judge.specs.Judging.{NestTables, line_in}
use Rattle.argue_judge.proofs.Sizes.{Long}
use Rattle.argue_judge.proofs.Closing.{Standing, opens_or, shape, closes_is, known-now, low_now, all_low_now}

-- a step counts one set at most
counted_few : (v c : ℕ) → counted v c ≤ suc c
counted_few zero c = omega arith
counted_few (suc v) c = omega arith

-- the tables stand for what the definition has here, and the rest of the lines judges as the whole text does
pub record Judges (n : Nest) (key s : List ℕ) (last : ℕ) (ends : List ℕ) (head : Claimed) (begins : Option ℕ)
    (c by known : ℕ) (low gone : List ℕ) (claims : List Claimed) (struck times : List ℕ) (place line : ℕ) : Type 0 where
  pub now : Judging
  pub many : ℕ
  pub steps : ℕ
  pub walk : Walk s (progress many steps by) place line
  pub rest : judge_from n key line now (parts_of (lines_of (drop place s))) ≡ judged n key (parts_of (lines_of s))
  pub by_is : by ≡ now.by
  pub stands : Standing n key last ends now head begins steps c known low gone claims struck times
  pub room : is_some begins ≡ true → suc known ≤ many
  pub few_claims : many ≤ CLAIMS
  pub pos : 0 < line

module _ (n : Nest) (key s : List ℕ) {last : ℕ} {ends owners counts : List ℕ}
    (t : NestTables n key last ends owners counts) where
  -- before the first line
  pub judges_begun
      : (head : Claimed) (low gone : List ℕ) (claims : List Claimed) (struck times : List ℕ)
      → head.d ≡ 0
      → head.a ≡ 0
      → head.b ≡ 0
      → ((i : ℕ) → holds low i ≡ false)
      → Excludes n key [] struck
      → CountTables n key begun last 0 0 times gone
      → Judges n key s last ends head None 0 0 0 low gone claims struck times 0 1
  unfolding judged
  judges_begun head low gone claims struck times d a b none excluded counts =
      record {
        now = unbegun;
        many = 0;
        steps = 0;
        walk = walk_begun s;
        rest = refl;
        by_is = refl;
        stands =
            record {
              opened_is = refl;
              opened_late = tt;
              opens =
                  record {
                    loop_is = d;
                    loop_do = starts_with_do n.points (shape t);
                    end_is = ap (at ends) d ∙ t.paper.ends_are 0 (starts_with_do n.points (shape t));
                    from_is = a;
                    upto_is = b;
                  };
              counts = counts;
              few_sets = omega arith;
              few_steps = omega arith;
              count_is = refl;
              knows =
                  record {
                    count_is = none-yet;
                    loops_are = λ m p. absurd (omega (arith, p, none-yet));
                    froms_are = λ m p. absurd (omega (arith, p, none-yet));
                    uptos_are = λ m p. absurd (omega (arith, p, none-yet));
                    loops_do = λ m p. absurd (omega (arith, p, none-yet));
                    excluded = excluded;
                  };
              lows = λ i p. none i;
              fresh = λ z. refl;
            };
        room = λ z. never z;
        few_claims = omega arith;
        pos = omega arith;
      }
    where
      none-yet : length (take 0 claims) ≡ 0
      none-yet = omega (arith, length-take 0 claims)

  module _ (sound : (argument_fault s).number ≡ 0) {head : Claimed} {begins : Option ℕ} {c by known : ℕ}
      {low gone : List ℕ} {claims : List Claimed} {struck times : List ℕ} {place line : ℕ}
      (j : Judges n key s last ends head begins c by known low gone claims struck times place line) where
    pub few_sets : c ≤ STEPS
    few_sets = omega (arith, j.stands.few_sets, j.stands.few_steps)

    pub few_times : (g : ℕ) → at times g ≤ STEPS
    few_times g = omega (arith, j.stands.counts.few g, j.stands.few_steps)

    -- ---- the text's end

    module _ (h : line_at s place ≡ Ok None) (o : Open) (oe : o ≡ open_of ends head) (r : Bool)
        (e : r ≡ (not (is_some begins) || shown_by (low_by o.a o.b) c (greatest (at times) last) (at counts o.d))) where
      closed : r ≡ closes n key j.now
      closed =
          closes_is t j.stands r
          (subst
          (λ (p : Open). r
          ≡ (not (is_some begins) || shown_by (low_by p.a p.b) c (greatest (at times) last) (at counts p.d))) oe e)

      ends_as
          : pick (closes n key j.now) (pick (all_low n key (known_now n key j.now) (length n.points)) 0 line)
          j.now.line
          ≡ judged n key (parts_of (lines_of s))
      unfolding judge_from
      ends_as = ap (judge_from n key line j.now) (sym (parts_end s place h)) ∙ j.rest

      pub end_unshown : r ≡ false → line_in begins ≡ judged n key (parts_of (lines_of s))
      end_unshown z =
          let no : closes n key j.now ≡ false = sym closed ∙ z in
          j.stands.opened_is ∙ sym (rw no refl) ∙ ends_as

      pub end_shown
          : r ≡ true
          → (ws : List ℕ)
          → ((i : ℕ) → holds ws i ≡
          ((is_some begins && (low_by head.a head.b && eqb i head.d)) || holds low i))
          → (b : Bool)
          → b ≡ all_low_in n.points counts ws (length n.points)
          → pick b 0 line ≡ judged n key (parts_of (lines_of s))
      end_shown z ws w b q =
          let yes : closes n key j.now ≡ true = sym closed ∙ z in
          let all : b ≡ all_low n key (known_now n key j.now) (length n.points) =
          q ∙
          all_low_now t (known_now n key j.now) ws (low_now t j.stands ws w) (length n.points)
          (omega (arith, t.paper.all, t.small)) in
          rw all (sym (rw yes refl)) ∙ ends_as

    -- ---- a line

    pub never_refused : (k : Refusal) → line_at s place ≡ Err k → ⊥
    never_refused k h = never_bad s (progress j.many j.steps by) place line j.walk sound k h

-- the same for every placement of which they are the tables
pub record JudgesAll (n : Nest) (s : List ℕ) (last : ℕ) (ends owners counts : List ℕ) (head : Claimed)
    (begins : Option ℕ) (c by known : ℕ) (low gone : List ℕ) (claims : List Claimed) (struck times : List ℕ)
    (place line : ℕ) : Type 0 where
  pub long : Long claims struck times
  pub judges
      : (key : List ℕ)
      → NestTables n key last ends owners counts
      → Judges n key s last ends head begins c by known low gone claims struck times place line

-- a turn that comes to a frame: the tables stand, and the frame is that of a good line and tells the part p
pub record Turn (n : Nest) (key s : List ℕ) (last : ℕ) (ends owners counts : List ℕ) (head : Claimed)
    (begins : Option ℕ) (c by known : ℕ) (low gone : List ℕ) (claims : List Claimed) (struck times : List ℕ)
    (place line : ℕ) (f : Frame) (p : DP.Part) : Type 0 where
  pub tables : NestTables n key last ends owners counts
  pub sound : (argument_fault s).number ≡ 0
  pub judges : Judges n key s last ends head begins c by known low gone claims struck times place line
  pub framed : line_at s place ≡ Ok (Some f)
  pub tells : IsPart f p

pub turned
    : {n : Nest} {s : List ℕ} {last : ℕ} {ends owners counts : List ℕ} {head : Claimed} {begins : Option ℕ}
    → {c by known : ℕ}
    → {low gone : List ℕ} {claims : List Claimed} {struck times : List ℕ} {place line : ℕ} (f : Frame) (p : DP.Part)
    → JudgesAll n s last ends owners counts head begins c by known low gone claims struck times place line
    → (argument_fault s).number ≡ 0
    → line_at s place ≡ Ok (Some f)
    → IsPart f p
    → (key : List ℕ)
    → NestTables n key last ends owners counts
    → Turn n key s last ends owners counts head begins c by known low gone claims struck times place line f p
turned f p v sound h i key t =
    record { tables = t; sound = sound; judges = v.judges key t; framed = h; tells = i }

module _ {n : Nest} {key s : List ℕ} {last : ℕ} {ends owners counts : List ℕ} {head : Claimed} {begins : Option ℕ}
    {c by known : ℕ}
    {low gone : List ℕ} {claims : List Claimed} {struck times : List ℕ} {place line : ℕ} {f : Frame} {p : DP.Part}
    (u : Turn n key s last ends owners counts head begins c by known low gone claims struck times place line f
    p) where
  abbrev j : Judges n key s last ends head begins c by known low gone claims struck times place line
  j = u.judges

  told_by : (q : DP.Part) → p ≡ q → IsPart f q
  told_by q e = subst (IsPart f) e u.tells

  -- the rest from this line on, which is a part
  judges_as
      : (q : DP.Part)
      → p ≡ q
      → judge_from n key line j.now (part_in q ∷ parts_of (lines_of (drop f.next s)))
      ≡ judged n key (parts_of (lines_of s))
  judges_as q i = ap (judge_from n key line j.now) (sym (parts_on s place f u.framed q (told_by q i))) ∙ j.rest

  fine_part : (q : DP.Part) → p ≡ q → part_fault (progress j.many j.steps by) (part_in q) ≡ 0
  fine_part q i = part_fine s (progress j.many j.steps by) place line j.walk u.sound f u.framed q (told_by q i)

  walks
      : (q : DP.Part)
      → p ≡ q
      → Walk s (after (progress j.many j.steps by) (part_in q)) f.next (line + 1)
  walks q i = walk_on s (progress j.many j.steps by) place line j.walk f u.framed q (told_by q i) (fine_part q i)

  pub goes-on : (place < f.next) × (f.next ≤ length s)
  goes-on = next_inside s (progress j.many j.steps by) place line j.walk f u.framed p u.tells

  pub never_unknown : p ≡ PV.Unknown → ⊥
  never_unknown i =
      omega (arith, unknown_fault (progress j.many j.steps by) PV.Unknown refl, fine_part PV.Unknown i)

  -- ---- that a claim leads the next step

  pub Led-on
      : {m : ℕ} (by' : ℕ)
      → p ≡ PV.By m
      → by' ≡ m + 1
      → Judges n key s last ends head begins c by' known low gone claims struck times f.next (line + 1)
  unfolding judge_from
  Led-on {m} by' i e =
      let b : by' ≡ suc m = omega (arith, e) in
      let ps = parts_of (lines_of (drop f.next s)) in
      record {
        now = led_by m j.now;
        many = j.many;
        steps = j.steps;
        walk =
            subst (λ (k : ℕ). Walk s (progress j.many j.steps k) f.next (line + 1)) (sym b)
            (walks (PV.By m) i);
        rest =
            ap (λ (k : ℕ). judge_from n key k (led_by m j.now) ps) (add-one line) ∙ judges_as (PV.By m) i;
        by_is = b;
        stands =
            record {
              opened_is = j.stands.opened_is;
              opened_late = j.stands.opened_late;
              opens = j.stands.opens;
              counts = j.stands.counts;
              few_sets = j.stands.few_sets;
              few_steps = j.stands.few_steps;
              count_is = j.stands.count_is;
              knows = j.stands.knows;
              lows = j.stands.lows;
              fresh = j.stands.fresh;
            };
        room = j.room;
        few_claims = j.few_claims;
        pos = omega arith;
      }

  -- ---- a step

  module _ {q : DS.Set} (i : p ≡ PV.Names q) where
    -- the set's number
    abbrev m : ℕ
    m = set_in q

    stepping
        : step n key j.now.open_is j.now.known (st m by) j.now.count ≡ counting n key m j.now
    stepping =
        ap (λ (k : ℕ). step n key j.now.open_is j.now.known (st m k) j.now.count) j.by_is

    steps_as
        : pick (counting n key m j.now).fine
        (judge_from n key (suc line) (stepped n key m j.now) (parts_of (lines_of (drop f.next s)))) line
        ≡ judged n key (parts_of (lines_of s))
    unfolding judge_from
    steps_as = judges_as (PV.Names q) i

    fine_as
        : (b : Bool)
        → b ≡ (step n key j.now.open_is j.now.known (st m by) j.now.count).fine
        → (counting n key m j.now).fine ≡ b
    fine_as b e = ap (λ (x : Count). x.fine) (sym stepping) ∙ sym e

    pub step_not
        : false ≡ (step n key j.now.open_is j.now.known (st m by) j.now.count).fine
        → line ≡ judged n key (parts_of (lines_of s))
    step_not e =
        let no : (counting n key m j.now).fine ≡ false = fine_as false e in
        sym (rw no refl) ∙ steps_as

    pub step_on
        : (c' : ℕ) (gone' times' : List ℕ)
        → true ≡ (step n key j.now.open_is j.now.known (st m by) j.now.count).fine
        → CountTables n key (step n key j.now.open_is j.now.known (st m by) j.now.count) last
        (suc j.steps) c' times' gone'
        → Judges n key s last ends head begins c' 0 known low gone' claims struck times' f.next
        (line + 1)
    step_on c' gone' times' e counts =
        let ps = parts_of (lines_of (drop f.next s)) in
        let yes : (counting n key m j.now).fine ≡ true = fine_as true e in
        let room = names_fine (progress j.many j.steps by) (PV.Names q) refl (fine_part (PV.Names q) i) in
        record {
          now = stepped n key m j.now;
          many = j.many;
          steps = suc j.steps;
          walk = walks (PV.Names q) i;
          rest =
              ap (λ (k : ℕ). judge_from n key k (stepped n key m j.now) ps) (add-one line) ∙
              sym (rw yes refl) ∙ steps_as;
          by_is = refl;
          stands =
              record {
                opened_is = j.stands.opened_is;
                opened_late = j.stands.opened_late;
                opens = j.stands.opens;
                counts = subst (λ (x : Count). CountTables n key x last (suc j.steps) c' times' gone') stepping
                    counts;
                few_sets =
                    omega (
                      arith,
                      counts.c_is,
                      counted_few by j.now.count.c,
                      j.stands.counts.c_is,
                      j.stands.few_sets,
                    );
                few_steps = omega (arith, room.1);
                count_is = j.stands.count_is;
                knows = j.stands.knows;
                lows = j.stands.lows;
                fresh = j.stands.fresh;
              };
          room = j.room;
          few_claims = j.few_claims;
          pos = omega arith;
        }

  -- ---- a claim

  module _ {k : Claimed} (i : p ≡ PV.Claims k) where
    -- the claim that was open is stored in the lists
    pub store_room : known < CLAIMS
    store_room =
        let room = claims_fine (progress j.many j.steps by) (PV.Claims k) refl (fine_part (PV.Claims k) i) in
        ⊎_elim
        (λ (z : (is_some begins ≡ false) × (j.now.line ≡ 0)).
        omega (arith, j.stands.count_is ∙ ap length (j.stands.fresh z.0)))
        (λ (z : (is_some begins ≡ true) × (j.now.line ≡ 0 → ⊥)). omega (arith, j.room z.0, room.1))
        (opens_or u.tables j.stands)

    module _ (o : Open) (oe : o ≡ open_of ends head) (r : Bool)
        (e : r ≡ (not (is_some begins) || shown_by (low_by o.a o.b) c (greatest (at times) last) (at counts o.d)))
      where
        shut : r ≡ closes n key j.now
        shut =
            closes_is u.tables j.stands r
            (subst
            (λ (p : Open). r
            ≡ (not (is_some begins) || shown_by (low_by p.a p.b) c (greatest (at times) last) (at counts p.d))) oe e)

        -- what is opened
        next : Judging
        next =
            opened n key line (claim k.d k.a k.b (rest_of 0 (parts_of (lines_of (drop f.next s)))).steps)
            j.now

        opens_as
            : pick (closes n key j.now)
            (pick (is_do n.points k.d) (judge_from n key (suc line) next (parts_of (lines_of (drop f.next s))))
            line) j.now.line
            ≡ judged n key (parts_of (lines_of s))
        unfolding judge_from next
        opens_as = judges_as (PV.Claims k) i

        pub claim_unshown : r ≡ false → line_in begins ≡ judged n key (parts_of (lines_of s))
        claim_unshown z =
            let no : closes n key j.now ≡ false = sym shut ∙ z in
            j.stands.opened_is ∙ sym (rw no refl) ∙ opens_as

        module _ (z : r ≡ true) where
          yes : closes n key j.now ≡ true
          yes = sym shut ∙ z

          pub claim_of_none : is_do n.points k.d ≡ false → line ≡ judged n key (parts_of (lines_of s))
          claim_of_none q = sym (rw (yes, q) refl) ∙ opens_as

          pub claim_on
              : (known' : ℕ) (low' gone' struck' times' : List ℕ)
              → is_do n.points k.d ≡ true
              → Closed begins o.d o.e o.a o.b c (at counts o.d) last owners times struck struck'
              → length claims ≡ CLAIMS
              → known' ≡ pick (is_some begins) (known + 1) known
              → ((g : ℕ) → holds low' g ≡
              ((is_some begins && (low_by head.a head.b && eqb g head.d)) || holds low g))
              → CountTables n key begun last 0 0 times' gone'
              → Judges n key s last ends k (Some line) 0 0 known' low' gone' (set claims known head) struck' times'
              f.next (line + 1)
          unfolding next
          claim_on known' low' gone' struck' times' q cl long ke lw clean =
              let ps = parts_of (lines_of (drop f.next s)) in
              let room = claims_fine (progress j.many j.steps by) (PV.Claims k) refl
              (fine_part (PV.Claims k) i) in
              let closed' : Closed begins head.d (at ends head.d) head.a head.b c (at counts head.d) last
              owners times struck struck' =
              subst
              (λ (p : Open). Closed begins p.d p.e p.a p.b c (at counts p.d) last owners times struck
              struck') oe cl in
              let knows = known-now u.tables j.stands struck' closed' (omega (arith, store_room, long)) in
              record {
                now = next;
                many = suc j.many;
                steps = 0;
                walk = walks (PV.Claims k) i;
                rest =
                    ap (λ (p : ℕ). judge_from n key p next ps) (add-one line) ∙ sym (rw (yes, q) refl) ∙ opens_as;
                by_is = refl;
                stands =
                    record {
                      opened_is = refl;
                      opened_late = j.pos;
                      opens =
                          record {
                            loop_is = refl;
                            loop_do = q;
                            end_is = u.tables.paper.ends_are k.d q;
                            from_is = refl;
                            upto_is = refl;
                          };
                      counts = clean;
                      few_sets = omega arith;
                      few_steps = omega arith;
                      count_is = counts_on (opens_or u.tables j.stands);
                      knows =
                          subst
                          (λ (p : ℕ). KnownTables n key (known_now n key j.now) (take p (set claims known head))
                          struck') (sym ke) knows;
                      lows = low_now u.tables j.stands low' lw;
                      fresh = λ y. never (sym y);
                    };
                room = λ y. few (opens_or u.tables j.stands);
                few_claims = omega (arith, room.1);
                pos = omega arith;
              }
            where
              -- where none was open there is none known, else there is one more
              none_known : is_some begins ≡ false → (known ≡ 0) × (known' ≡ known)
              none_known y = (j.stands.count_is ∙ ap length (j.stands.fresh y), ke ∙ rw y refl)

              more_known : is_some begins ≡ true → known' ≡ known + 1
              more_known y = ke ∙ rw y refl

              counts_on
                  : ((is_some begins ≡ false) × (j.now.line ≡ 0)) ⊎ ((is_some begins ≡ true) × (j.now.line ≡ 0 → ⊥))
                  → known' ≡ length (known_now n key j.now)
              counts_on (inl y) = rw (eq-eqb j.now.line 0 y.1) (omega (arith, none_known y.0))
              counts_on (inr y) =
                  let one = known_of n key j.now.open_is j.now.count in
                  rw (ne_eqb j.now.line 0 y.1)
                  (omega (arith, more_known y.0, j.stands.count_is, length-append j.now.known (one ∷ [])))

              few
                  : ((is_some begins ≡ false) × (j.now.line ≡ 0)) ⊎ ((is_some begins ≡ true) × (j.now.line ≡ 0 → ⊥))
                  → suc known' ≤ suc j.many
              few (inl y) = omega (arith, none_known y.0)
              few (inr y) = omega (arith, more_known y.0, j.room y.0)
