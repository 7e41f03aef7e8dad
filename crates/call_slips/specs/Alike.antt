-- Slips on two desks with the same nest.
-- Main definitions: `Alike`, `SlipAlike`, `ExaminerAlike`.
use Rattle.std.specs.Prelude.{◌≡◌, List, ℕ, length, take, drop}
use Rattle.desk.specs.declared.Desk as DD
use Rattle.desk.specs.declared.Answer as DA
use Rattle.desk.specs.Desks.{desk_in, IsMade}
use Rattle.call_slips.specs.Says.{CandidateSays, ExaminerSays}

-- two replies a and b, and what they left of two buffers: the same reply, the same bytes written, and behind them each
-- buffer's own
pub record Alike (a b : DA.Answer) (out out' other other' : List ℕ) : Type 0 where
  pub same_reply : a ≡ b
  pub same_bytes : take a.value out' ≡ take b.value other'
  pub own_tail : drop a.value out' ≡ drop a.value out
  pub other_tail : drop b.value other' ≡ drop b.value other

-- 02, job 9: whatever calls made two desks, and whether they have a key, a sitting or moves: with the same nest, the
-- same text and buffers of one length the candidate's slip is the same, refusals included
abbrev pub SlipAlike : Type 0
SlipAlike =
    (d e : DD.Desk) (s out out' other other' : List ℕ) (a b : DA.Answer) →
    IsMade d →
    IsMade e →
    (desk_in d).nest_is ≡ (desk_in e).nest_is →
    length out ≡ length other →
    CandidateSays d s out out' a →
    CandidateSays e s other other' b →
    Alike a b out out' other other'

-- 02, job 6: the examiner's slip is the same where both have a key or neither has
abbrev pub ExaminerAlike : Type 0
ExaminerAlike =
    (d e : DD.Desk) (s out out' other other' : List ℕ) (a b : DA.Answer) →
    IsMade d →
    IsMade e →
    (desk_in d).nest_is ≡ (desk_in e).nest_is →
    d.planned ≡ e.planned →
    length out ≡ length other →
    ExaminerSays d s out out' a →
    ExaminerSays e s other other' b →
    Alike a b out out' other other'
