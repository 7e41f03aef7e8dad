-- One key for one paper: where the nest that an accepted text spells is not blocked, its key is its first key, no other
-- placement is, and in a nest of one loop it is the first of the smallest correct sets of gaps.
-- Main statement: `one_key`.
use Rattle.paper_texts.specs.NestTexts.{read_nest}
use Rattle.paper_texts.proofs.Accepted.{accepted_valid}
use Rattle.plan_theorem.specs.OneKey.{One-key}
use Rattle.plan_theorem.proofs.KeyFirst.{key_is_first, first_only}
use Rattle.plan_theorem.proofs.RingKey.{ring_first_smallest}

-- 02, job 6: every accepted text that has a key has one
pub one_key : One-key
one_key =
    record {
      is-first = λ s h unblocked. key_is_first (read_nest s).nest_is (accepted_valid s h) unblocked;
      no_other = λ s key h k. first_only (read_nest s).nest_is (accepted_valid s h) key k;
      one-loop = λ s h unblocked one. ring_first_smallest (read_nest s).nest_is (accepted_valid s h) unblocked one;
    }
