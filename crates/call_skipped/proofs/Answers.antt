-- What each way through the two calls says of the reply.
-- Main statements: `relied_unread`, `relied_no_dependence`, `relied_given`; `one_end_given`.
use mathlib.Core.Path.{◌≡◌, sym, ◌∙◌, ap, subst}
use mathlib.Core.Bool.{true, false}
use mathlib.Core.List.{List}
use Prim.Native.Nat.{ℕ, ◌≤◌, ◌<◌}
use native.Mathlib.Omega.{arith}
use lib.ListN.{length}
use borrow.Author.Tests.{eq-eqb, ne_eqb, lt-ltb, le-ltb}
use Rattle.paper_nests.specs.Stored.{nest_in, IsCounted}
use Rattle.paper_placements.specs.Words.{gaps_in}
use Rattle.paper_texts.specs.PlacementTexts.{Placed, placed}
use Rattle.desk.specs.declared.Desk as DD
use Rattle.desk.specs.declared.Chosen as DC
use Rattle.desk.specs.Desks.{desk_in, state_fault, Fault, fault}
use Rattle.desk.specs.Says.{read_in}
use Rattle.desk.proofs.Choosing.{chooses}
use Rattle.call_skipped.specs.Relied.{relied_at}
use Rattle.call_skipped.specs.OneEnd.{one_end_at}
use Rattle.call_skipped.specs.Says.{number_fault, relied_fault, NoneChosen, LoopsSays, ReliedSays}
use Rattle.call_skipped.specs.Says.{one_end_fault, OneEndSays}

-- a refusal with its number and line, and a set of loops
none_by
    : (f : Fault) (xs : List ℕ) (n l : ℕ) (r : DC.Chosen) → f ≡ fault n l → (n ≡ 0 → ⊥) → NoneChosen n l r
    → LoopsSays f xs r
none_by f xs n l r e h c =
    let z = ne_eqb n 0 h in
    subst (λ (g : Fault). LoopsSays g xs r) (sym e)
    (record { number_is = c.number_is; line_is = c.line_is; set_is = rw z c.set_is })

given_by
    : (f : Fault) (xs : List ℕ) (r : DC.Chosen) → f ≡ fault 0 0 → r.number ≡ 0 → r.line ≡ 0
    → gaps_in r.set.words ≡ xs → LoopsSays f xs r
given_by f xs r e n l s =
    subst (λ (g : Fault). LoopsSays g xs r) (sym e) (record { number_is = n; line_is = l; set_is = s })

module _ (d : DD.Desk) (i : ℕ) (m : IsCounted d.nest) where
  -- whether a dependence has the number
  no_number : d.nest.many ≤ i → number_fault (desk_in d) i ≡ 6
  no_number h = rw (le-ltb i (length (nest_in d.nest).deps) (omega (arith, m.many_is)))

  is_number : i < d.nest.many → number_fault (desk_in d) i ≡ 0
  is_number h = rw (lt-ltb i (length (nest_in d.nest).deps) (omega (arith, m.many_is)))

  module _ (s : List ℕ) where
    abbrev loops : List ℕ
    loops = relied_at (desk_in d).nest_is (read_in (desk_in d) s).gaps i

    module _
        (none : state_fault false (desk_in d) ≡ 0) (n l : ℕ) (gs : List ℕ) (e : placed n l gs ≡ read_in (desk_in d) s) where
      -- the faults of the text
      pub relied_unread : (n ≡ 0 → ⊥) → (r : DC.Chosen) → NoneChosen n l r → ReliedSays d s i r
      relied_unread h r =
          let f : relied_fault (desk_in d) s i ≡ fault n l =
          rw (eq-eqb (state_fault false (desk_in d)) 0 none, ← e, ne_eqb n 0 h) in
          none_by (relied_fault (desk_in d) s i) loops n l r f h

      module _ (z : n ≡ 0) where
        read : relied_fault (desk_in d) s i ≡ fault (number_fault (desk_in d) i) 0
        read = rw (eq-eqb (state_fault false (desk_in d)) 0 none, ← e, eq-eqb n 0 z)

        -- 6
        pub relied_no_dependence : d.nest.many ≤ i → (r : DC.Chosen) → NoneChosen 6 0 r → ReliedSays d s i r
        relied_no_dependence h r =
            none_by (relied_fault (desk_in d) s i) loops 6 0 r (read ∙ ap (λ (k : ℕ). fault k 0) (no_number h))
            (λ q. omega arith)

        -- the loops
        pub relied_given
            : i < d.nest.many → (r : DC.Chosen) → r.number ≡ 0 → r.line ≡ 0
            → gaps_in r.set.words ≡ relied_at (nest_in d.nest) gs i → ReliedSays d s i r
        relied_given h r a b c =
            given_by (relied_fault (desk_in d) s i) loops r (read ∙ ap (λ (k : ℕ). fault k 0) (is_number h)) a b
            (c ∙ ap (λ (x : Placed). relied_at (nest_in d.nest) x.gaps i) e)

  pub one_end_given
      : d.loaded ≡ true → i < d.nest.many → (r : DC.Chosen) → r.number ≡ 0 → r.line ≡ 0
      → gaps_in r.set.words ≡ one_end_at (nest_in d.nest) i → OneEndSays d i r
  one_end_given nest h r n l g = chooses (one_end_fault (desk_in d) i) _ r (rw nest (is_number h)) n l g
