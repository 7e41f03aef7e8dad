-- The planner: for each loop a number of barriers, and for each gap q of its range the leftmost front of a placement
-- with that number and a gap from q on. All numbers are points or gaps; a gap is written `suc p`, just after point p.
-- Main definitions: `walk`, `value`, `cost_of`, `left_of`, `choice_of`, `lay_of`, and `IsTable`, which says what a table
-- holds.
use Rattle.std.specs.Prelude.{◌≡◌, Bool, true, false, ◌&&◌, ◌||◌, ℕ, zero, suc, ◌≤◌, ◌<◌, eqb, ltb, leb}
use Rattle.laws.specs.Choice.{pick, first_of}

-- loops: which points are DO and ENDDO, the ENDDO of a DO, the loop that a gap belongs to (of an ENDDO point: its DO)
pub record Loops : Type 0 where
  pub is_do : ℕ → Bool
  pub is_end : ℕ → Bool
  pub stop : ℕ → ℕ
  pub own : ℕ → ℕ

-- the dependences with home d: whether there are any; the least end of the independent ones whose gaps start at a
-- (above every gap where there is none); the least t of the carried ones whose later gaps start above q (stop d: none)
pub record Lines : Type 0 where
  pub has : ℕ → Bool
  pub reach : ℕ → ℕ → ℕ
  pub limit : ℕ → ℕ → ℕ

-- of each loop: its barriers; for each q the leftmost front (0: none), the suffix that gives it, the placement
pub record Tables : Type 0 where
  pub cost : ℕ → ℕ
  pub left : ℕ → ℕ → ℕ
  pub choice : ℕ → ℕ → ℕ
  pub lay : ℕ → ℕ → ℕ → Bool

-- a sweep so far: own barriers, the leftmost barrier, the gaps laid
pub record State : Type 0 where
  pub c : ℕ
  pub f : ℕ
  pub w : ℕ → Bool

abbrev pub st : ℕ → ℕ → (ℕ → Bool) → State
st c f w = record { c = c; f = f; w = w }

-- placements: none, one gap, two together
abbrev pub bare : ℕ → Bool
bare g = false

abbrev pub only : ℕ → ℕ → Bool
only p g = eqb g p

abbrev pub also : (ℕ → Bool) → (ℕ → Bool) → ℕ → Bool
also x y g = x g || y g

-- the last gap by which a line that starts at a has to be cut; the suffix q … e is a line too
unfoldable pub need_of : (ℕ → ℕ) → ℕ → ℕ → ℕ → ℕ
need_of reach q e a = pick (eqb a q && ltb e (reach a)) e (reach a)

-- a gap of the loop's own, not after a child: a barrier where a line starts that is not cut yet
unfoldable pub put : ℕ → State → State
put p s = st (suc s.c) (suc p) (also (only (suc p)) s.w)

unfoldable pub step_plain : (ℕ → ℕ) → ℕ → State → State
step_plain need p s = pick (ltb (need (suc p)) s.f) (put p s) s

-- the largest a of L + 1 … p at which a line starts that is not cut yet, 0 for none
unfoldable pub seek : (ℕ → ℕ) → ℕ → ℕ → ℕ → ℕ
seek need f L zero = 0
seek need f L (suc a) =
    let r = seek need f L a in
    pick (ltb L (suc a)) (pick (ltb (need (suc a)) f) (suc a) r) 0

-- a child L with its ENDDO p, and the gap after it: nothing to cut there; the child cuts all; a barrier after the child
unfoldable pub free : (ℕ → ℕ) → (ℕ → ℕ → Bool) → ℕ → State → State
free left lay L s = st s.c (first_of (left (suc L)) s.f) (also (lay (suc L)) s.w)

unfoldable pub inner : (ℕ → ℕ) → (ℕ → ℕ → Bool) → ℕ → State → State
inner left lay b s = st s.c (left b) (also (lay b) s.w)

unfoldable pub outer : (ℕ → ℕ) → (ℕ → ℕ → Bool) → ℕ → ℕ → State → State
outer left lay L p s = st (suc s.c) (first_of (left (suc L)) (suc p))
    (also (lay (suc L)) (also (only (suc p)) s.w))

unfoldable pub child_at : (ℕ → ℕ) → (ℕ → ℕ → Bool) → ℕ → ℕ → State → ℕ → State
child_at left lay L p s b =
    pick (eqb b 0) (free left lay L s) (pick (leb b p && ltb 0 (left b)) (inner left lay b s) (outer left lay L p s))

unfoldable pub step_child : (ℕ → ℕ) → (ℕ → ℕ) → (ℕ → ℕ → Bool) → ℕ → ℕ → State → State
step_child need left lay L p s = child_at left lay L p s (seek need s.f L (suc p))

-- from a boundary p down to the loop's DO; a child is one step
unfoldable pub next : Loops → ℕ → ℕ
next B p = pick (B.is_end p) (B.own p) p

unfoldable pub step : Loops → Tables → (ℕ → ℕ) → ℕ → State → State
step B T need p s =
    let a = step_child need (T.left (B.own p)) (T.lay (B.own p)) (B.own p) p s in
    let b = step_plain need p s in
    pick (B.is_end p) a b

unfoldable pub walk : Loops → Tables → (ℕ → ℕ) → ℕ → ℕ → ℕ → State → State
walk B T need d zero p s = s
walk B T need d (suc k) zero s = s
walk B T need d (suc k) (suc p) s =
    let r = walk B T need d k (next B p) (step B T need p s) in
    pick (ltb p d) s r

abbrev pub start : ℕ → State
start e = st 0 (suc e) bare

unfoldable pub sweep : Loops → Tables → (ℕ → ℕ) → ℕ → State
sweep B T need d = walk B T need d (B.stop d) (B.stop d) (start (B.stop d))

-- the prefix: a barrier right after the DO where the front lies beyond the limit
unfoldable pub close : ℕ → ℕ → State → State
close d t s = pick (leb s.f t) s (put d s)

unfoldable pub value : Loops → Lines → Tables → ℕ → ℕ → State
value B N T d q = close d (N.limit d q) (sweep B T (need_of (N.reach d) q (B.stop d)) d)

-- the least of v at d + 1 … e
unfoldable pub least : (ℕ → ℕ) → ℕ → ℕ → ℕ
least v d zero = v 0
least v d (suc e) =
    let r = least v d e in
    let here = v (suc e) in
    pick (leb e d || leb here r) here r

-- the least front of the values from q to e with c barriers, and the smallest place that has it; 0 for none
pub record Front : Type 0 where
  pub f : ℕ
  pub at : ℕ

abbrev pub front : ℕ → ℕ → Front
front f at = record { f = f; at = at }

unfoldable pub better : ℕ → ℕ → State → Front → Front
better c q v r = pick (eqb v.c c && (eqb r.f 0 || leb v.f r.f)) (front v.f q) r

unfoldable pub best : (ℕ → State) → ℕ → ℕ → ℕ → ℕ → Front
best v c e zero q = front 0 0
best v c e (suc k) q =
    let r = better c q (v q) (best v c e k (suc q)) in
    pick (ltb e q) (front 0 0) r

-- something to cut: a dependence with home d, or a child that holds barriers
unfoldable pub child_some : Loops → Tables → ℕ → ℕ → Bool
child_some B T d zero = false
child_some B T d (suc l) =
    (ltb d l && (B.is_do l && (eqb (B.own l) d && ltb 0 (T.left l (suc l))))) || child_some B T d l

unfoldable pub some_of : Loops → Lines → Tables → ℕ → Bool
some_of B N T d = N.has d || child_some B T d (B.stop d)

-- a loop's row, from the rows of the loops directly inside it
unfoldable pub cost_of : Loops → Lines → Tables → ℕ → ℕ
cost_of B N T d =
    let r = least (λ q. (value B N T d q).c) d (B.stop d) in
    pick (some_of B N T d) r 0

unfoldable pub front_of : Loops → Lines → Tables → ℕ → ℕ → Front
front_of B N T d q =
    let r = best (value B N T d) (cost_of B N T d) (B.stop d) (suc (B.stop d)) q in
    pick (some_of B N T d) r (front 0 0)

unfoldable pub left_of : Loops → Lines → Tables → ℕ → ℕ → ℕ
left_of B N T d q = (front_of B N T d q).f

unfoldable pub choice_of : Loops → Lines → Tables → ℕ → ℕ → ℕ
choice_of B N T d q = (front_of B N T d q).at

unfoldable pub lay_of : Loops → Lines → Tables → ℕ → ℕ → ℕ → Bool
lay_of B N T d q = pick (ltb 0 (left_of B N T d q)) (value B N T d (choice_of B N T d q)).w bare

-- every loop's row is the one made from the rows inside it
pub record IsTable (B : Loops) (N : Lines) (T : Tables) : Type 0 where
  pub cost_is : (d : ℕ) → B.is_do d ≡ true → T.cost d ≡ cost_of B N T d
  pub left_is : (d q : ℕ) → B.is_do d ≡ true → d < q → q ≤ B.stop d → T.left d q ≡ left_of B N T d q
  pub choice_is : (d q : ℕ) → B.is_do d ≡ true → d < q → q ≤ B.stop d → T.choice d q ≡ choice_of B N T d q
  pub lay_is : (d q g : ℕ) → B.is_do d ≡ true → d < q → q ≤ B.stop d → T.lay d q g ≡ lay_of B N T d q g
