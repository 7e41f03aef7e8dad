-- The argument of a nest's key. A lap of a loop, with the front of the lap before, is the planner's sweep for the
-- suffix that this front leaves uncut; its steps are one for each barrier that it counts and one for each child that it
-- enters.
-- Main definitions: `trace`, `lap_end`, `laps`, `steps_for`.
use Rattle.std.specs.Prelude.{Bool, ◌&&◌, ◌||◌, not, List, [], ◌∷◌, ◌++◌, ℕ, zero, suc, eqb, ltb, leb, length}
use Rattle.laws.specs.Choice.{pick}
use Rattle.paper_nests.specs.Kinds.{INDEPENDENT}
use Rattle.paper_nests.specs.Nests.{Dep, Nest}
use Rattle.paper_nests.specs.Loops.{is_do, end_of}
use Rattle.plan_method.specs.Sweep.{Loops, Tables, State, need_of, put, seek, next, step, start, sweep}
use Rattle.paper_barred.specs.Reduced.{reduced}
use Rattle.plan_method.specs.Plan.{table_of}
use Rattle.plan_method.specs.Home.{home_of, starts_at, reach_of, loops_in, lines_in}
use Rattle.argue_claims.specs.Arguments.{Step, Claim, st, claim}

unfoldable pub event_plain : (ℕ → ℕ) → (ℕ → ℕ) → ℕ → ℕ → List Step
event_plain need set p f = pick (ltb (need (suc p)) f) (st (set (suc p)) 0 ∷ []) []

-- a child that is entered leads to a fact, if a gap lies before its front
unfoldable pub event_at : (ℕ → ℕ) → (ℕ → ℕ) → (ℕ → ℕ) → ℕ → ℕ → ℕ → List Step
event_at left set lead L p b =
    let r = pick (ltb (suc L) (left b)) (st (set b) (suc (lead b)) ∷ []) [] in
    pick (eqb b 0) [] (pick (leb b p && ltb 0 (left b)) r (st (set b) 0 ∷ []))

unfoldable pub event_child : (ℕ → ℕ) → (ℕ → ℕ) → (ℕ → ℕ) → (ℕ → ℕ) → ℕ → ℕ → ℕ → List Step
event_child need left set lead L p f = event_at left set lead L p (seek need f L (suc p))

unfoldable pub event : Loops → Tables → (ℕ → ℕ) → (ℕ → ℕ) → (ℕ → ℕ → ℕ) → ℕ → ℕ → List Step
event B T need set lead p f =
    let a = event_child need (T.left (B.own p)) set (lead (B.own p)) (B.own p) p f in
    let b = event_plain need set p f in
    pick (B.is_end p) a b

unfoldable pub trace : Loops → Tables → (ℕ → ℕ) → (ℕ → ℕ) → (ℕ → ℕ → ℕ) → ℕ → ℕ → ℕ → State → List Step
trace B T need set lead d zero p s = []
trace B T need set lead d (suc k) zero s = []
trace B T need set lead d (suc k) (suc p) s =
    let r = trace B T need set lead d k (next B p) (step B T need p s) in
    let h = event B T need set lead p s.f in
    pick (ltb p d) [] (h ++ r)

-- a start and a number
pub record Start : Type 0 where
  pub at : ℕ
  pub num : ℕ

abbrev pub starting : ℕ → ℕ → Start
starting a m = record { at = a; num = m }

-- carried by d, and not cut by a front f of the lap before
abbrev pub is_back : List ℕ → ℕ → ℕ → Dep → Bool
is_back ps d f e = not (eqb e.kind INDEPENDENT) && (eqb (home_of ps e) d && ltb e.t f)

abbrev pub starts_later : Start → Dep → Bool
starts_later r e = ltb r.at (suc e.s)

-- of these one with the greatest start, and its number; start 0 for none
unfoldable pub last_back : List ℕ → ℕ → ℕ → List Dep → Start
last_back ps d f [] = starting 0 0
last_back ps d f (e ∷ es) =
    let r = last_back ps d f es in
    pick (is_back ps d f e && starts_later r e) (starting (suc e.s) 0) (starting r.at (suc r.num))

-- the number of an independent dependence with home d and the gaps a … t
unfoldable pub line_num : List ℕ → ℕ → ℕ → ℕ → List Dep → ℕ
line_num ps d a t [] = 0
line_num ps d a t (e ∷ es) = pick (starts_at ps d a e && eqb e.t t) 0 (suc (line_num ps d a t es))

-- the suffix that is left: of a carried dependence, or the one supposed, and its set
unfoldable pub suffix_of : List ℕ → List Dep → ℕ → ℕ → ℕ → Start
suffix_of ps ds d from f =
    let r = last_back ps d f ds in
    pick (ltb from r.at) (starting r.at (suc (suc r.num))) (starting from 0)

unfoldable pub lap_need : List ℕ → List Dep → ℕ → ℕ → ℕ → ℕ → ℕ
lap_need ps ds d from f = need_of (reach_of ps ds d) (suffix_of ps ds d from f).at (end_of ps d)

unfoldable pub lap_set : List ℕ → List Dep → ℕ → ℕ → ℕ → ℕ → ℕ
lap_set ps ds d from f a =
    let r = suffix_of ps ds d from f in
    pick (eqb a r.at && ltb (end_of ps d) (reach_of ps ds d a)) r.num
    (suc (suc (line_num ps d a (reach_of ps ds d a) ds)))

-- at the end of a lap the supposed gap up to `upto`, where the front lies beyond
unfoldable pub close_up : ℕ → ℕ → State → State
close_up d upto s = pick (ltb 0 upto && ltb upto s.f) (put d s) s

unfoldable pub close_step : ℕ → ℕ → List Step
close_step upto f = pick (ltb 0 upto && ltb upto f) (st 1 0 ∷ []) []

-- a lap's count is more than `few`
abbrev pub is_enough : ℕ → ℕ → Bool
is_enough few c = ltb few c

module _ (ps : List ℕ) (ds : List Dep) (T : Tables) (lead : ℕ → ℕ → ℕ) (d from upto few : ℕ) where
  unfoldable pub lap_swept : ℕ → State
  lap_swept f = sweep (loops_in ps) T (lap_need ps ds d from f) d

  unfoldable pub lap_end : ℕ → State
  lap_end f = close_up d upto (lap_swept f)

  unfoldable pub lap_steps : ℕ → List Step
  lap_steps f =
      trace (loops_in ps) T (lap_need ps ds d from f) (lap_set ps ds d from f) lead d (end_of ps d) (end_of ps d)
      (start (end_of ps d)) ++ close_step upto (lap_swept f).f

  -- lap after lap, until one counts more than `few`
  unfoldable pub laps : ℕ → ℕ → List Step
  laps zero f = []
  laps (suc j) f =
      let r = laps j (lap_end f).f in
      pick (is_enough few (lap_end f).c) (lap_steps f) (lap_steps f ++ r)

-- one less, or 0
abbrev pub before : ℕ → ℕ
before zero = 0
before (suc m) = m

-- what a claim says, without its steps
pub record Head : Type 0 where
  pub loop : ℕ
  pub from : ℕ
  pub upto : ℕ

abbrev pub head : ℕ → ℕ → ℕ → Head
head d a b = record { loop = d; from = a; upto = b }

abbrev pub few_for : Tables → Head → ℕ
few_for T h = pick (eqb h.from 0 && eqb h.upto 0) (before (T.cost h.loop)) (T.cost h.loop)

-- its steps: laps from a front right after the DO
unfoldable pub steps_for : List ℕ → List Dep → Tables → (ℕ → ℕ → ℕ) → Head → List Step
steps_for ps ds T lead h =
    laps ps ds T lead h.loop h.from h.upto (few_for T h) (suc (suc (end_of ps h.loop))) (suc h.loop)

-- the claim says of loop l: if there is one from some gap up to a on, none before t
abbrev pub is_from : Claim → ℕ → ℕ → ℕ → Bool
is_from k l a t = eqb k.loop l && ((ltb 0 k.from && leb k.from a) && eqb (suc k.upto) t)

-- the number of such a claim among those made before
unfoldable pub find_claim : List Claim → ℕ → ℕ → ℕ → ℕ
find_claim [] l a t = 0
find_claim (k ∷ ks) l a t =
    pick (is_from k l a t) 0 (suc (find_claim ks l a t))

abbrev pub lead_in : Tables → List Claim → ℕ → ℕ → ℕ
lead_in T cs l b = find_claim cs l b (T.left l b)

abbrev pub claim_for : List ℕ → List Dep → Tables → List Claim → Head → Claim
claim_for ps ds T cs h = claim h.loop h.from h.upto (steps_for ps ds T (lead_in T cs) h)

-- claims with these heads, one after the other
unfoldable pub made : List ℕ → List Dep → Tables → List Claim → List Head → List Claim
made ps ds T cs [] = []
made ps ds T cs (h ∷ hs) = claim_for ps ds T cs h ∷ made ps ds T (cs ++ (claim_for ps ds T cs h ∷ [])) hs

-- the heads of a loop's claims: what its row says, for the first gap of each run of equal fronts, where a gap lies
-- before the front
abbrev pub starts_run : Tables → ℕ → ℕ → Bool
starts_run T d b =
    not (eqb (T.left d (suc b)) (suc d)) && (eqb b d || not (eqb (T.left d (suc b)) (T.left d b)))

unfoldable pub row_heads : Tables → ℕ → ℕ → List Head
row_heads T d zero = []
row_heads T d (suc b) =
    let r = row_heads T d b in
    let s = head d (suc b) (before (T.left d (suc b))) ∷ r in
    pick (ltb d (suc b)) (pick (starts_run T d b) s r) []

abbrev pub low_heads : Tables → ℕ → List Head
low_heads T d = pick (ltb 0 (T.cost d)) (head d 0 0 ∷ []) []

abbrev pub side_heads : Tables → ℕ → ℕ → List Head
side_heads T d e =
    let r = pick (ltb (suc d) (T.left d (suc d))) (head d 0 (before (T.left d (suc d))) ∷ []) [] in
    pick (ltb 0 d) (r ++ row_heads T d e) []

unfoldable pub loop_heads : List ℕ → Tables → ℕ → List Head
loop_heads ps T d =
    pick (is_do ps d && ltb 0 (T.left d (suc d))) (low_heads T d ++ side_heads T d (end_of ps d)) []

-- the loops from the last DO to the first
unfoldable pub heads_from : List ℕ → Tables → ℕ → ℕ → List Head → List Head
heads_from ps T zero d hs = hs
heads_from ps T (suc k) d hs = heads_from ps T k (suc d) (loop_heads ps T d ++ hs)

-- the argument of a nest without barred gaps
unfoldable pub plain_argument : List ℕ → List Dep → List Claim
plain_argument ps ds =
    made ps ds (table_of (loops_in ps) (lines_in ps ds) (length ps)) []
    (heads_from ps (table_of (loops_in ps) (lines_in ps ds) (length ps)) (length ps) 0 [])

-- the argument of a nest; where gaps are barred, that of the nest of the unbarred gaps, whose dependences have the same
-- numbers
unfoldable pub argument_of : Nest → List Claim
argument_of n =
    let r = reduced n.points n.barred n.deps in
    pick (eqb (length n.barred) 0) (plain_argument n.points n.deps) (plain_argument r.points r.deps)
