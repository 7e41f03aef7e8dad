-- The arguments given for the papers P, Q and R, by computing. They say more than is asked for: claims that nothing
-- uses, and steps that are not needed; shorter ones are in crate argue_claims, Papers.
-- Main statement: `given`.
use mathlib.Core.Path.{◌≡◌, refl}
use mathlib.Core.List.{[], ◌∷◌}
use Rattle.paper_nests.proofs.Cases.{paper_P, paper_Q, paper_R}
use Rattle.argue_claims.specs.Arguments.{claim, st}
use Rattle.plan_method.specs.Sweep as S
use Rattle.plan_method.specs.Plan as P
use Rattle.plan_method.specs.Home as H
use Rattle.argue_key.specs.Laps as L
use Rattle.argue_key.specs.Laps.{argument_of}

pub record Given : Type 0 where
  pub of_P
      : argument_of paper_P
      ≡ claim 7 0 0 (st 4 0 ∷ []) ∷ claim 7 0 8 (st 4 0 ∷ st 1 0 ∷ []) ∷ claim 7 12 0 (st 0 0 ∷ st 4 0 ∷ []) ∷
      claim 7 10 10 (st 0 0 ∷ st 5 0 ∷ st 1 0 ∷ []) ∷ claim 7 8 8 (st 4 0 ∷ st 1 0 ∷ []) ∷ claim 1 0 0 (st 2 0 ∷ []) ∷
      claim 1 0 2 (st 2 0 ∷ st 1 0 ∷ []) ∷ claim 1 6 0 (st 0 0 ∷ st 2 0 ∷ []) ∷
      claim 1 4 4 (st 0 0 ∷ st 3 0 ∷ st 1 0 ∷ []) ∷ claim 1 2 2 (st 2 0 ∷ st 1 0 ∷ []) ∷ []
  pub of_Q
      : argument_of paper_Q
      ≡ claim 3 0 0 (st 3 0 ∷ []) ∷ claim 3 5 5 (st 0 0 ∷ st 3 0 ∷ st 1 0 ∷ []) ∷ claim 2 0 5 (st 4 2 ∷ st 1 0 ∷ []) ∷
      claim 2 7 0 (st 0 0 ∷ []) ∷ claim 2 3 5 (st 4 2 ∷ st 1 0 ∷ []) ∷ claim 0 0 0 (st 2 0 ∷ []) ∷ []
  pub of_R : argument_of paper_R ≡ claim 0 0 0 (st 3 0 ∷ st 4 0 ∷ st 2 0 ∷ []) ∷ []

pub given : Given
unfolding
    S.need_of S.put S.step_plain S.seek S.free S.inner S.outer S.child_at S.step_child S.next S.step S.walk S.sweep
    S.close S.value S.least S.better S.best S.child_some S.some_of S.cost_of S.front_of S.left_of S.choice_of S.lay_of
    P.no_tables P.with_row P.table_from P.table_of H.least_end H.reach_of H.limit_of H.has_at L.event_plain L.event_at
    L.event_child L.event L.trace L.last_back L.line_num L.suffix_of L.lap_need L.lap_set L.close_up L.close_step L.lap_swept
    L.lap_end L.lap_steps L.laps L.steps_for L.find_claim L.made L.row_heads L.loop_heads L.heads_from L.plain_argument
    L.argument_of
given = record { of_P = refl; of_Q = refl; of_R = refl }
