-- What a sweep makes from each start of a loop on. A start is a gap at which a line starts; its event is what the sweep
-- does when it finds it first: a number of own barriers, 0 or 1, and a front. The link of a front is the start at which
-- the sweep goes on.
-- Main definitions: `marked`, `cost_at`, `front_at`, `Event`, `Passed`, `Followed`, `StartsSay`.
use Rattle.std.specs.Prelude.{◌≡◌, Bool, true, false, ◌&&◌, List, ℕ, zero, suc, ◌+◌, ◌≤◌, ◌<◌, eqb, ltb, leb, length}
use Rattle.laws.specs.Choice.{pick, first_of}
use Rattle.laws.specs.Entries.{at}
use Rattle.paper_nests.specs.Loops.{is_do, is_end}
use Rattle.plan_method.specs.Sweep.{seek, need_of, sweep}
use Rattle.plan_sweeps.specs.Listed.{row, listed, tabled, SweepRoom}
use Rattle.plan_starts.specs.Grounds.{Bound, Within, Kept}

-- the ends of lines, and 0 at the first gap of a loop directly inside d that holds barriers: nothing above it cuts
-- there
unfoldable pub marked : List ℕ → List ℕ → (ℕ → ℕ) → (ℕ → ℕ) → ℕ → ℕ → ℕ
marked ps own need left d zero = need 0
marked ps own need left d (suc p) =
    pick (ltb d p && (is_do ps p && (eqb (at own p) d && ltb 0 (left (suc p))))) 0 (need (suc p))

abbrev pub Marked : List ℕ → List ℕ → (ℕ → ℕ) → List ℕ → ℕ → ℕ → ℕ → List ℕ → Type 0
Marked ps own reach left kids d e need =
    (a : ℕ) → d < a → a ≤ e → at need a ≡ marked ps own reach (row left kids) d a

-- the event at the gap x of a loop with its ENDDO p, or after it: the loop cuts all, or a barrier after the loop
unfoldable pub cost_at : (ℕ → ℕ) → ℕ → ℕ → ℕ
cost_at left p x = pick (leb x p && ltb 0 (left x)) 0 1

unfoldable pub front_or : (ℕ → ℕ) → ℕ → ℕ → ℕ → ℕ
front_or left p x outer = pick (leb x p && ltb 0 (left x)) (left x) outer

abbrev pub front_at : (ℕ → ℕ) → ℕ → ℕ → ℕ → ℕ
front_at left l p x = front_or left p x (first_of (left (suc l)) (suc p))

-- the event at a gap x of a loop, whatever its ENDDO
abbrev pub EventSays : (ℕ → ℕ) → ℕ → ℕ → ℕ → ℕ → Type 0
EventSays left x outer c f = (p : ℕ) → x ≤ p → (c ≡ cost_at left p x) × (f ≡ front_or left p x outer)

-- what `mark` writes for the gap after a DO
abbrev pub end_after : ℕ → ℕ → ℕ → ℕ → ℕ → ℕ
end_after owner d p first end = pick (ltb d p && (eqb owner d && ltb 0 first)) 0 end

-- E b x c f of every start x above p, with its event c, f and the boundary b under it
pub data Passed (ps own left : List ℕ) (kids d e : ℕ) (E : ℕ → ℕ → ℕ → ℕ → Type 0) : ℕ → Type 0 where
  top : Passed ps own left kids d e E e
  plain
      : (p : ℕ)
      → d ≤ p
      → Bound own d e (suc p)
      → is_end ps p ≡ false
      → E p (suc p) 1 (suc p)
      → Passed ps own left kids d e E (suc p)
      → Passed ps own left kids d e E p
  child
      : (p : ℕ)
      → d ≤ p
      → Bound own d e (suc p)
      → is_end ps p ≡ true
      → ((x : ℕ) → at own p < x → x ≤ suc p → E (at own p) x (cost_at (row left kids) p x)
      (front_at (row left kids) (at own p) p x))
      → Passed ps own left kids d e E (suc p)
      → Passed ps own left kids d e E (at own p)

-- the event of x stands in two lists, and the link of its front in a third
pub record Event (need : ℕ → ℕ) (d e : ℕ) (cs fs link : List ℕ) (b x c f : ℕ) : Type 0 where
  pub cost_is : at cs x ≡ c
  pub front_is : at fs x ≡ f
  pub link_is : at link f ≡ seek need f d b
  pub cost : c ≤ 1
  pub low : b < f
  pub high : f ≤ e

-- no line that starts after a, up to b, ends before t
abbrev pub Late : (ℕ → ℕ) → ℕ → ℕ → ℕ → ℕ → Type 0
Late need d b t a = (y : ℕ) → d < y → a < y → y ≤ b → t ≤ need y

-- the events of a loop l with its ENDDO p directly inside d, and of the gap after it
pub record ChildSays (need left : List ℕ) (kids d l p : ℕ) (cs fs link cs' fs' link' : List ℕ) (a : ℕ) : Type 0 where
  pub events
      : (x : ℕ)
      → l < x
      → x ≤ suc p
      → Event (at need) d (suc p) cs' fs' link' l x (cost_at (row left kids) p x) (front_at (row left kids) l p x)
  pub cs_kept : Kept cs cs' l (suc p)
  pub fs_kept : Kept fs fs' l (suc p)
  pub link_kept : Kept link link' l (suc p)
  pub late : Late (at need) d l l a

-- room for them; their fronts, and the last start found so far
pub record ChildRoom (need left : List ℕ) (kids d l p : ℕ) (cs fs link : List ℕ) (a : ℕ) : Type 0 where
  pub short : l < p
  pub narrow : suc p < 256
  pub need_room : suc p < length need
  pub left_room : kids + suc p < length left
  pub cs_room : suc p < length cs
  pub fs_room : suc p < length fs
  pub link_room : suc p < length link
  pub fronts : (q : ℕ) → l < q → q ≤ p → Within l p (row left kids q)
  pub late : Late (at need) d (suc p) (suc p) a

abbrev pub EventsSay : List ℕ → List ℕ → List ℕ → List ℕ → ℕ → ℕ → ℕ → List ℕ → List ℕ → List ℕ → Type 0
EventsSay ps own need left kids d e cs fs link =
    Passed ps own left kids d e (Event (at need) d e cs fs link) d

-- an event that can be followed: its link lies before it
pub record Fit (d e : ℕ) (cs fs link : List ℕ) (x : ℕ) : Type 0 where
  pub cost : at cs x ≤ 1
  pub front_low : d < at fs x
  pub front_high : at fs x ≤ e
  pub link_low : 0 < at link (at fs x) → d < at link (at fs x)
  pub link_high : at link (at fs x) < x

-- the starts up to p hold what is made from them on: their event, and what is made from its link on
pub record Followed (link cs fs cs' fs' : List ℕ) (d e p : ℕ) : Type 0 where
  pub c_is : (x : ℕ) → d < x → x ≤ p → at cs' x ≡ at cs x + at cs' (at link (at fs x))
  pub f_is : (x : ℕ) → d < x → x ≤ p → at fs' x ≡ first_of (at fs' (at link (at fs x))) (at fs x)
  pub small : (x : ℕ) → d < x → x ≤ p → at cs' x ≤ x
  pub low : (x : ℕ) → d < x → x ≤ p → d < at fs' x
  pub high : (x : ℕ) → d < x → x ≤ p → at fs' x ≤ e
  pub c_none : at cs' 0 ≡ 0
  pub f_none : at fs' 0 ≡ 0

-- the later of two gaps
unfoldable pub later : ℕ → ℕ → ℕ
later q first = pick (ltb q first) first q

-- the sweep for the suffix q starts at q, or at the last start with a line in the loop if that lies further right
pub record Started (ps own left : List ℕ) (kids d e : ℕ) (reach : ℕ → ℕ) (cs fs : List ℕ) (first : ℕ)
    (lay : ℕ → ℕ → ℕ → Bool) : Type 0 where
  pub c_is
      : (q : ℕ)
      → d < q
      → q ≤ e
      → at cs (later q first) ≡ (sweep (listed ps own e) (tabled left kids lay) (need_of reach q e) d).c
  pub f_is
      : (q : ℕ)
      → d < q
      → q ≤ e
      → at fs (later q first) ≡ (sweep (listed ps own e) (tabled left kids lay) (need_of reach q e) d).f

-- the numbers stay small, the fronts in the loop's range
pub record Ranged (d e : ℕ) (cs fs : List ℕ) : Type 0 where
  pub small : (x : ℕ) → d < x → x ≤ e → at cs x ≤ x
  pub low : (x : ℕ) → d < x → x ≤ e → d < at fs x
  pub high : (x : ℕ) → d < x → x ≤ e → at fs x ≤ e

pub record StartsSay (ps own need left : List ℕ) (kids d e : ℕ) (cs fs : List ℕ) (first : ℕ) : Type 0 where
  pub started
      : (reach : ℕ → ℕ) (lay : ℕ → ℕ → ℕ → Bool)
      → Marked ps own reach left kids d e need
      → Started ps own left kids d e reach cs fs first lay
  pub ranged : Ranged d e cs fs
  pub first_high : first ≤ e

-- room for the starts of a loop with its ENDDO e
pub record StartsRoom (ps own need left : List ℕ) (kids d e : ℕ) (cs fs link : List ℕ) : Type 0 where
  pub sweep_room : SweepRoom ps own need left kids e
  pub long : d < e
  pub short : e < 256
  pub cs_room : e < length cs
  pub fs_room : e < length fs
  pub link_room : e < length link

-- room for the marks
pub record MarkRoom (ps own reach : List ℕ) (base : ℕ) (left : List ℕ) (kids d e : ℕ) (need : List ℕ) : Type 0 where
  pub points_room : e < length ps
  pub own_room : e < length own
  pub reach_room : base + e < length reach
  pub left_room : kids + e < length left
  pub need_room : e < length need
  pub long : d < e

-- events that can be followed
pub record FollowRoom (d e : ℕ) (link cs fs : List ℕ) : Type 0 where
  pub long : d < e
  pub short : e < 256
  pub cs_room : e < length cs
  pub fs_room : e < length fs
  pub link_room : e < length link
  pub fits : (x : ℕ) → d < x → x ≤ e → Fit d e cs fs link x
  pub c_none : at cs 0 ≡ 0
  pub f_none : at fs 0 ≡ 0
