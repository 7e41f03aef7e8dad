-- The open claim closed over tables, as the definition closes it.
-- Main definition: `Standing`. Main statements: `closes_is`, `known-now`, `low_now`, `all_low_now`.
use mathlib.Core.Path.{◌≡◌, refl, sym, ap, ◌∙◌}
use Rattle.std.proofs.Common.{Option, Some, None}
use Rattle.std.specs.Option.{is_some, IfSome}
use mathlib.Core.Bool.{Bool, true, false, ◌&&◌, ◌||◌, not}
use mathlib.Core.List.{List, [], ◌∷◌, ◌++◌}
use mathlib.Core.Logic.{◌⊎◌, inl, inr, ⊎_elim}
use Prim.Native.Nat.{ℕ, zero, suc, ◌+◌, ◌≤◌, ◌<◌}
use native.Mathlib.Omega.{arith}
use lib.Dec.{eqb, ltb, leb}
use lib.ListN.{length, take, set, length-append, length-take, length-set}
use lib.Seq.{get_or-take, get_or-set_same, get_or-set_other}
use borrow.Author.Tests.{lt-leb, eq-eqb, ne_eqb}
use Rattle.laws.specs.Choice.{pick, when}
use Rattle.laws.specs.Entries.{at}
use Rattle.laws.proofs.Tests.{eq_or}
use Rattle.paper_nests.specs.Kinds.{POINTS}
use Rattle.paper_nests.specs.Nests.{Nest}
use Rattle.paper_nests.specs.Loops.{is_do, end_of, owner_of}
use Rattle.paper_nests.specs.Valid.{is_shape}
use Rattle.paper_nests.proofs.Deps.{valid_is}
use Rattle.paper_nests.proofs.Levels.{point_in}
use Rattle.paper_nests.proofs.Loops.{end_there}
use Rattle.paper_placements.specs.Placements.{loop_count}
use Rattle.paper_placements.specs.Words.{holds}
use Rattle.argue_claims.specs.Arguments.{Known, Count, greatest, lots, is_low, known_at, has_low, most, key_lots}
use Rattle.argue_claims.specs.Arguments.{known_of, ended, says, all_low}
use Rattle.argue_claims.proofs.Lots.{greatest_pos}
use Rattle.argue_texts.specs.declared.Claimed.{Claimed}
use Rattle.argue_texts.specs.ArgumentTexts.{STEPS}
use Rattle.argue_texts.specs.Judged.{Judging, closes, known_now}
use Rattle.argue_weigh.specs.Striking.{excludes_at, Struck}
use Rattle.argue_weigh.specs.Excluding.{Excludes}
use Rattle.argue_weigh.specs.Taking.{claim_at, KnownTables, OpenTables, CountTables}
use Rattle.argue_weigh.proofs.Excluding.{strike_excludes, excludes_says}
use Rattle.argue_judge.specs.Ends.{low_by, shown_by, exact_by, Closed, all_low_in}
use Rattle.argue_judge.specs.Opened.{open_of}
use Rattle.argue_judge.specs.Judging.{NestTables, line_in}

greatest_alike
    : (f h : ℕ → ℕ) (m : ℕ) → ((g : ℕ) → 0 < g → g ≤ m → f g ≡ h g) → greatest f m ≡ greatest h m
greatest_alike f h zero same = refl
greatest_alike f h (suc m) same =
    let here : f (suc m) ≡ h (suc m) = same (suc m) (omega arith) (omega arith) in
    let before : greatest f m ≡ greatest h m = greatest_alike f h m (λ g p q. same g p (omega (arith, q))) in
    rw (here, before) refl

-- nothing at the last place adds nothing
greatest_past : (f : ℕ → ℕ) (m : ℕ) → f (suc m) ≡ 0 → greatest f (suc m) ≡ greatest f m
greatest_past f m z = rw (z, lt-leb (greatest f m) 0 (greatest_pos f m)) refl

-- ---- one claim more in the list

known_old : (ks : List Known) (k : Known) (m : ℕ) → m < length ks → known_at (ks ++ (k ∷ [])) m ≡ known_at ks m
known_old [] k m h = absurd (omega arith)
known_old (j ∷ ks) k zero h = refl
known_old (j ∷ ks) k (suc m) h = known_old ks k m (omega (arith, h))

known_last : (ks : List Known) (k : Known) (m : ℕ) → m ≡ length ks → known_at (ks ++ (k ∷ [])) m ≡ k
known_last [] k m e = rw e refl
known_last (j ∷ ks) k zero e = absurd (omega (arith, e))
known_last (j ∷ ks) k (suc m) e = known_last ks k m (omega (arith, e))

-- the claims so far with one more stored behind them
module _ (cs : List Claimed) (v : Claimed) (known : ℕ) (fits : known < length cs) where
  listed_long : length (take (known + 1) (set cs known v)) ≡ known + 1
  listed_long = omega (arith, length-take (known + 1) (set cs known v), length-set cs known v, fits)

  listed_before : length (take known cs) ≡ known
  listed_before = omega (arith, length-take known cs, fits)

  -- each of them, as the list of the definition has it
  listed
      : (f : Claimed → ℕ) (h : Known → ℕ) (ks : List Known) (k : Known)
      → known ≡ length ks
      → ((m : ℕ) → m < length (take known cs) → f (claim_at (take known cs) m) ≡ h (known_at ks m))
      → f v ≡ h k
      → (m : ℕ)
      → m < length (take (known + 1) (set cs known v))
      → f (claim_at (take (known + 1) (set cs known v)) m) ≡ h (known_at (ks ++ (k ∷ [])) m)
  listed f h ks k e old new m p =
      ap f (get_or-take (known + 1) (set cs known v) m none inside) ∙
      ⊎_elim
      (λ (z : m ≡ known). rw z (ap f (get_or-set_same cs known v none fits) ∙ new) ∙
      sym (ap h (known_last ks k m (z ∙ e))))
      (λ (z : m ≡ known → ⊥). ap f (get_or-set_other cs known m v none z ∙
      sym (get_or-take known cs m none (before z))) ∙
      old m (omega (arith, before z, listed_before)) ∙ sym (ap h (known_old ks k m (omega (arith, before z, e)))))
      (eq_or m known)
    where
      none : Claimed
      none = record { d = 0; a = 0; b = 0 }

      inside : m < known + 1
      inside = omega (arith, p, listed_long)

      before : (m ≡ known → ⊥) → m < known
      before z = omega (arith, z, inside)

low_more
    : (ks : List Known) (k : Known) (d : ℕ)
    → has_low (ks ++ (k ∷ [])) d ≡ ((eqb k.loop d && (eqb k.from 0 && eqb k.upto 0)) || has_low ks d)
low_more [] k d = refl
low_more (j ∷ ks) k d =
    let r = low_more ks k d in
    rw r (or_swap (eqb j.loop d && (eqb j.from 0 && eqb j.upto 0))
    (eqb k.loop d && (eqb k.from 0 && eqb k.upto 0)) (has_low ks d))
  where
    or_swap : (a b c : Bool) → (a || (b || c)) ≡ (b || (a || c))
    or_swap true true c = refl
    or_swap true false c = refl
    or_swap false b c = refl

eqb_turned : (i j : ℕ) → eqb i j ≡ eqb j i
eqb_turned i j =
    ⊎_elim
    (λ (e : i ≡ j). eq-eqb i j e ∙ sym (eq-eqb j i (sym e)))
    (λ (e : i ≡ j → ⊥). ne_eqb i j e ∙ sym (ne_eqb j i (λ z. e (sym z))))
    (eq_or i j)

-- ---- tables

-- the tables say what the definition has before a line: the open claim, its steps, the claims before it
pub record Standing (n : Nest) (key : List ℕ) (last : ℕ) (ends : List ℕ) (x : Judging) (head : Claimed)
    (opened : Option ℕ) (steps c known : ℕ) (low gone : List ℕ) (claims : List Claimed) (struck times : List ℕ)
    : Type 0 where
  pub opened_is : line_in opened ≡ x.line
  pub opened_late : IfSome opened (λ (l : ℕ). 0 < l)
  pub opens : OpenTables n key x.open_is (open_of ends head)
  pub counts : CountTables n key x.count last steps c times gone
  pub few_sets : c ≤ steps
  pub few_steps : steps ≤ STEPS
  pub count_is : known ≡ length x.known
  pub knows : KnownTables n key x.known (take known claims) struck
  pub lows : (d : ℕ) → d < POINTS → holds low d ≡ has_low x.known d
  pub fresh : is_some opened ≡ false → x.known ≡ []

-- a claim is open, or none is
pub open_or
    : (opened : Option ℕ)
    → IfSome opened (λ (l : ℕ). 0 < l)
    → ((is_some opened ≡ false) × (line_in opened ≡ 0)) ⊎ ((is_some opened ≡ true) × (line_in opened ≡ 0 → ⊥))
open_or None h = inl (refl, refl)
open_or (Some l) h = inr (refl, λ z. omega (arith, h, z))

module _ {n : Nest} {key : List ℕ} {last : ℕ} {ends owners counts : List ℕ}
    (t : NestTables n key last ends owners counts) where
  pub shape : is_shape n.points ≡ true
  shape = (valid_is n t.paper.valid).shape

  -- the DO of a loop has an entry
  pub do_small : (d : ℕ) → is_do n.points d ≡ true → d < POINTS
  do_small d h = omega (arith, point_in n.points d 0 h, t.paper.all, t.small)

  pub end_last : (d : ℕ) → is_do n.points d ≡ true → end_of n.points d ≤ last
  end_last d h = omega (arith, end_there n.points shape d h, t.paper.all)

  most_is
      : (x : Count) (steps c : ℕ) (times gone : List ℕ)
      → CountTables n key x last steps c times gone
      → greatest (at times) last ≡ most n key x
  most_is x steps c times gone h =
      let past : greatest x.times (suc last) ≡ greatest x.times last = greatest_past x.times last h.beyond in
      let all : greatest x.times (length n.points) ≡ greatest x.times (suc last) =
      ap (greatest x.times) t.paper.all in
      greatest_alike (at times) x.times last h.times_are ∙ sym past ∙ sym all

  module _ {x : Judging} {head : Claimed} {opened : Option ℕ} {steps c known : ℕ}
      {low gone : List ℕ} {claims : List Claimed} {struck times : List ℕ}
      (s : Standing n key last ends x head opened steps c known low gone claims struck times) where
    -- a claim is open, or none is, in the definition too
    pub opens_or : ((is_some opened ≡ false) × (x.line ≡ 0)) ⊎ ((is_some opened ≡ true) × (x.line ≡ 0 → ⊥))
    opens_or = rw s.opened_is at (open_or opened s.opened_late)

    none_open : not (is_some opened) ≡ eqb x.line 0
    none_open =
        ⊎_elim
        (λ (z : (is_some opened ≡ false) × (x.line ≡ 0)). rw (z.0, eq-eqb x.line 0 z.1) refl)
        (λ (z : (is_some opened ≡ true) × (x.line ≡ 0 → ⊥)). rw (z.0, ne_eqb x.line 0 z.1) refl)
        opens_or

    -- the open claim's loop is one
    pub head_do : is_do n.points head.d ≡ true
    head_do = ap (is_do n.points) s.opens.loop_is ∙ s.opens.loop_do

    pub head_small : head.d < POINTS
    head_small = do_small head.d head_do

    pub head_end : at ends head.d ≡ end_of n.points head.d
    head_end = t.paper.ends_are head.d head_do

    count_is : at counts head.d ≡ loop_count n key x.open_is.loop
    count_is = t.counts_are head.d head_small ∙ ap (loop_count n key) s.opens.loop_is

    most_now : greatest (at times) last ≡ most n key x.count
    most_now = most_is x.count steps c times gone s.counts

    low_is : low_by head.a head.b ≡ is_low x.open_is
    low_is =
        ap (λ (i : ℕ). eqb i 0 && eqb head.b 0) s.opens.from_is ∙
        ap (λ (i : ℕ). eqb x.open_is.from 0 && eqb i 0) s.opens.upto_is

    lots_is : lots (greatest (at times) last) (at counts head.d) ≡ key_lots n key x.open_is x.count
    lots_is =
        ap (λ (i : ℕ). lots i (at counts head.d)) most_now ∙ ap (lots (most n key x.count)) count_is

    shown_is
        : shown_by (low_by head.a head.b) c (greatest (at times) last) (at counts head.d)
        ≡ ended n key x.open_is x.count
    shown_is =
        let fine : x.count.fine ≡ true = s.counts.fine in
        let is-do : is_do n.points x.open_is.loop ≡ true = s.opens.loop_do in
        ap (λ (i : ℕ). ltb i (c + when (low_by head.a head.b) (greatest (at times) last))) lots_is ∙
        ap (λ (i : ℕ). ltb (key_lots n key x.open_is x.count)
        (i + when (low_by head.a head.b) (greatest (at times) last))) s.counts.c_is ∙
        ap (λ (b : Bool). ltb (key_lots n key x.open_is x.count) (x.count.c + when b (greatest (at times) last)))
        low_is ∙
        ap (λ (i : ℕ). ltb (key_lots n key x.open_is x.count) (x.count.c + when (is_low x.open_is) i))
        most_now ∙
        sym (rw (fine, is-do) refl)

    pub closes_is
        : (r : Bool)
        → r
        ≡ (not (is_some opened) ||
        shown_by (low_by head.a head.b) c (greatest (at times) last) (at counts head.d))
        → r ≡ closes n key x
    closes_is r e =
        e ∙
        ap (λ (b : Bool). b || shown_by (low_by head.a head.b) c (greatest (at times) last) (at counts head.d))
        none_open ∙
        ap (λ (b : Bool). eqb x.line 0 || b) shown_is

    -- what is excluded now is what the claim says
    says_is
        : (g : ℕ)
        → head.d < g
        → g ≤ at ends head.d
        → excludes_at head.a head.b
        (exact_by (low_by head.a head.b) c (greatest (at times) last) (at counts head.d))
        (greatest (at times) last) owners times head.d g
        ≡ says n key (known_of n key x.open_is x.count) g
    says_is g p q =
        let k = x.open_is in
        let exact = exact_by (low_by head.a head.b) c (greatest (at times) last) (at counts head.d) in
        let inside : g ≤ last = omega (arith, q, head_end, end_last head.d head_do) in
        let o : at owners g ≡ owner_of n.points g = t.paper.owners_are g inside in
        let named : at times g ≡ x.count.times g = s.counts.times_are g (omega (arith, p)) inside in
        let e : exact ≡ (is_low k && eqb x.count.c (key_lots n key k x.count)) =
        ap (λ (b : Bool). b && eqb c (lots (greatest (at times) last) (at counts head.d))) low_is ∙
        ap (λ (i : ℕ). is_low k && eqb c i) lots_is ∙
        ap (λ (i : ℕ). is_low k && eqb i (key_lots n key k x.count)) s.counts.c_is in
        ap (λ (i : ℕ). excludes_at i head.b exact (greatest (at times) last) owners times head.d g)
        s.opens.from_is ∙
        ap (λ (i : ℕ). excludes_at k.from i exact (greatest (at times) last) owners times head.d g)
        s.opens.upto_is ∙
        ap (λ (i : ℕ). excludes_at k.from k.upto exact (greatest (at times) last) owners times i g)
        s.opens.loop_is ∙
        excludes_says n key k x.count exact (greatest (at times) last) owners times g e most_now o named

    module _ (new : List ℕ)
        (cl : Closed opened head.d (at ends head.d) head.a head.b c (at counts head.d) last owners times
        struck new) where
      struck_says
          : is_some opened ≡ true
          → Struck (says n key (known_of n key x.open_is x.count)) x.open_is.loop
          (end_of n.points x.open_is.loop) struck new
      struck_says z =
          let b = cl.struck z in
          let d : head.d ≡ x.open_is.loop = s.opens.loop_is in
          let e : at ends head.d ≡ end_of n.points x.open_is.loop = s.opens.end_is in
          record {
            long = b.long;
            inside = λ g p q. inner b g (omega (arith, p, d)) (omega (arith, q, e)) d;
            outside = λ g p. b.outside g (outer g p d e);
          }
        where
          inner
              : Struck
              (excludes_at head.a head.b
              (exact_by (low_by head.a head.b) c (greatest (at times) last) (at counts head.d))
              (greatest (at times) last) owners times head.d)
              head.d (at ends head.d) struck new
              → (g : ℕ)
              → head.d < g
              → g ≤ at ends head.d
              → head.d ≡ x.open_is.loop
              → at new g
              ≡ pick (says n key (known_of n key x.open_is x.count) g)
              (pick (leb (at struck g) (suc x.open_is.loop)) (suc x.open_is.loop) (at struck g)) (at struck g)
          inner b g p q d = b.inside g p q ∙ rw (says_is g p q, d) refl

          outer
              : (g : ℕ)
              → (g ≤ x.open_is.loop) ⊎ (end_of n.points x.open_is.loop < g)
              → head.d ≡ x.open_is.loop
              → at ends head.d ≡ end_of n.points x.open_is.loop
              → (g ≤ head.d) ⊎ (at ends head.d < g)
          outer g (inl p) d e = inl (omega (arith, p, d))
          outer g (inr p) d e = inr (omega (arith, p, e))

      more
          : is_some opened ≡ true
          → known < length claims
          → KnownTables n key (x.known ++ (known_of n key x.open_is x.count ∷ []))
          (take (known + 1) (set claims known head)) new
      more z fits =
          let ks = x.known in
          let k = known_of n key x.open_is x.count in
          record {
            count_is = omega (arith, listed_long claims head known fits, s.count_is, length-append ks (k ∷ []));
            loops_are =
                listed claims head known fits (λ (c : Claimed). c.d) (λ (j : Known). j.loop) ks k s.count_is
                s.knows.loops_are s.opens.loop_is;
            froms_are =
                listed claims head known fits (λ (c : Claimed). c.a) (λ (j : Known). j.from) ks k s.count_is
                s.knows.froms_are s.opens.from_is;
            uptos_are =
                listed claims head known fits (λ (c : Claimed). c.b) (λ (j : Known). j.upto) ks k s.count_is
                s.knows.uptos_are s.opens.upto_is;
            loops_do = λ m p. does m (omega (arith, p, listed_long claims head known fits)) (eq_or m known);
            excluded = strike_excludes n key ks k struck new s.knows.excluded (struck_says z);
          }
        where
          does
              : (m : ℕ)
              → m < known + 1
              → (m ≡ known) ⊎ ((m ≡ known) → ⊥)
              → is_do n.points (known_at (x.known ++ (known_of n key x.open_is x.count ∷ [])) m).loop ≡ true
          does m p (inl q) =
              ap (λ (j : Known). is_do n.points j.loop)
              (known_last x.known (known_of n key x.open_is x.count) m (q ∙ s.count_is)) ∙
              s.opens.loop_do
          does m p (inr q) =
              let below : m < known = omega (arith, p, q) in
              ap (λ (j : Known). is_do n.points j.loop)
              (known_old x.known (known_of n key x.open_is x.count) m (omega (arith, below, s.count_is))) ∙
              s.knows.loops_do m (omega (arith, below, listed_before claims head known fits))

      -- the claims up to the one that was open, in the list; where there was none, nothing is known as before
      pub known-now
          : known < length claims
          → KnownTables n key (known_now n key x)
          (take (pick (is_some opened) (known + 1) known) (set claims known head)) new
      known-now fits = go opens_or
        where
          go
              : ((is_some opened ≡ false) × (x.line ≡ 0)) ⊎ ((is_some opened ≡ true) × (x.line ≡ 0 → ⊥))
              → KnownTables n key (known_now n key x)
              (take (pick (is_some opened) (known + 1) known) (set claims known head)) new
          go (inl z) =
              let none : x.known ≡ [] = s.fresh z.0 in
              let zero_known : known ≡ 0 = s.count_is ∙ ap length none in
              let zero_long : length (take known (set claims known head)) ≡ 0 =
              omega (arith, length-take known (set claims known head), zero_known) in
              let same : Excludes n key [] new =
              rw (cl.none z.0) (rw none at s.knows.excluded) in
              rw (z.0, eq-eqb x.line 0 z.1)
              (record {
                count_is = zero_long;
                loops_are = λ m p. absurd (omega (arith, p, zero_long));
                froms_are = λ m p. absurd (omega (arith, p, zero_long));
                uptos_are = λ m p. absurd (omega (arith, p, zero_long));
                loops_do = λ m p. absurd (omega (arith, p, zero_long));
                excluded = same;
              })
          go (inr z) = rw (z.0, ne_eqb x.line 0 z.1) (more z.0 fits)

    -- the loops with a low claim, as a set
    pub low_now
        : (ws : List ℕ)
        → ((i : ℕ) → holds ws i ≡ ((is_some opened && (low_by head.a head.b && eqb i head.d)) || holds low i))
        → (d : ℕ)
        → d < POINTS
        → holds ws d ≡ has_low (known_now n key x) d
    low_now ws h d small = go opens_or
      where
        turn : (a b c : Bool) → ((b && a) || c) ≡ ((a && b) || c)
        turn true true c = refl
        turn true false c = refl
        turn false true c = refl
        turn false false c = refl

        go
            : ((is_some opened ≡ false) × (x.line ≡ 0)) ⊎ ((is_some opened ≡ true) × (x.line ≡ 0 → ⊥))
            → holds ws d ≡ has_low (known_now n key x) d
        go (inl z) =
            let none : x.known ≡ [] = s.fresh z.0 in
            let here : holds ws d ≡ holds low d = h d ∙ rw z.0 refl in
            here ∙ s.lows d small ∙ rw (none, eq-eqb x.line 0 z.1) refl
        go (inr z) =
            let k = x.open_is in
            let here : holds ws d ≡ ((low_by head.a head.b && eqb d head.d) || holds low d) =
            h d ∙ rw z.0 refl in
            let same : eqb d head.d ≡ eqb k.loop d =
            eqb_turned d head.d ∙ ap (λ (i : ℕ). eqb i d) s.opens.loop_is in
            let now : has_low (known_now n key x) d ≡ has_low (x.known ++ (known_of n key k x.count ∷ [])) d =
            rw (ne_eqb x.line 0 z.1) refl in
            here ∙
            ap (λ (b : Bool). (b && eqb d head.d) || holds low d) low_is ∙
            ap (λ (b : Bool). (is_low k && b) || holds low d) same ∙
            ap (λ (b : Bool). (is_low k && eqb k.loop d) || b) (s.lows d small) ∙
            turn (eqb k.loop d) (is_low k) (has_low x.known d) ∙
            sym (low_more x.known (known_of n key k x.count) d) ∙ sym now

  -- every loop with a count has its low claim, by the set
  pub all_low_now
      : (ks : List Known) (ws : List ℕ)
      → ((d : ℕ) → d < POINTS → holds ws d ≡ has_low ks d)
      → (m : ℕ)
      → m ≤ POINTS
      → all_low_in n.points counts ws m ≡ all_low n key ks m
  all_low_now ks ws h zero small = refl
  all_low_now ks ws h (suc m) small =
      let below : m < POINTS = omega (arith, small) in
      let here : holds ws m ≡ has_low ks m = h m below in
      let count : at counts m ≡ loop_count n key m = t.counts_are m below in
      let r : all_low_in n.points counts ws m ≡ all_low n key ks m = all_low_now ks ws h m (omega (arith, small)) in
      rw (here, count, r) refl
