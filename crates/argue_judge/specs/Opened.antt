-- The open claim, and a step of it, as the code for steps takes them.
-- Main definitions: `open_of`, `dependence_of`, `asked_of`.
use Rattle.std.specs.Prelude.{List, ℕ, ltb, length, get_or, Option, None, Some}
use Rattle.laws.specs.Choice.{pick}
use Rattle.laws.specs.Entries.{at}
use Rattle.paper_nests.specs.declared.Dependence.{Dependence}
use Rattle.argue_texts.specs.declared.Claimed.{Claimed}
use Rattle.argue_texts.specs.declared.Set.{Set}
use Rattle.argue_texts.specs.declared.Set.TheVariants as SV
use Rattle.argue_weigh.specs.declared.Ended.{Ended}
use Rattle.argue_weigh.specs.declared.Asked.{Asked}
use Rattle.argue_weigh.specs.declared.Open.{Open}

-- a claim with the ENDDO of its loop, by the table
abbrev pub open_of : List ℕ → Claimed → Open
open_of ends h = record { d = h.d; e = at ends h.d; a = h.a; b = h.b }

-- dependence k, as the code reads it, with the ENDDO of the loop that carries it
abbrev pub ended_at : List Dependence → List ℕ → ℕ → Ended
ended_at deps ends k =
    let e = get_or deps k (record { kind = 0; d = 0; s = 0; t = 0 }) in
    record { e = e; end = at ends e.d }

-- the dependence of a set, where it is one's and is there
abbrev pub dependence_of : Set → List Dependence → List ℕ → Option Ended
dependence_of SV.From deps ends = None
dependence_of SV.Upto deps ends = None
dependence_of (SV.Dependence k) deps ends = pick (ltb k (length deps)) (Some (ended_at deps ends k)) None

abbrev pub asked_of : Set → Option ℕ → List Dependence → List ℕ → Asked
asked_of s by deps ends = record { set = s; by = by; dependence = dependence_of s deps ends }
