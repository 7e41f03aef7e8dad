-- Demand 3 of texts: every accepted text whose nest is not blocked has a key, and every key of it is least loop by loop
-- from the inside.
-- Main definition: `Demand-3`.
use Rattle.std.specs.Prelude.{◌≡◌, false, List, ℕ}
use Rattle.paper_order.specs.Keys.{IsKey, By-loops}
use Rattle.paper_barred.specs.Reduced.{is_blocked}
use Rattle.paper_texts.specs.NestTexts.{read_nest}

-- 01, "Which placement is better": the nest is the one that the accepted text spells; 02, job 7: a blocked one has no
-- correct placement
pub record Demand-3 : Type 0 where
  pub some_key
      : (s : List ℕ)
      → (read_nest s).number ≡ 0
      → is_blocked (read_nest s).nest_is ≡ false
      → (key : List ℕ) × IsKey (read_nest s).nest_is key
  pub by_loops
      : (s key : List ℕ)
      → (read_nest s).number ≡ 0
      → IsKey (read_nest s).nest_is key
      → By-loops (read_nest s).nest_is key
