-- The paper of a desk that calls made, as a nest of the project's definitions, and what the desk's state refuses.
-- Main statements: `page_valid`, `key_state`, `nest_state`, `turn_state`, `mapped_in`, `papers_same`.
use mathlib.Core.Path.{◌≡◌, refl, sym, ◌∙◌, ap}
use mathlib.Core.Bool.{Bool, true, false}
use mathlib.Core.List.{List, [], ◌∷◌}
use mathlib.Core.Logic.{inl, inr}
use Prim.Native.Nat.{ℕ, suc, ◌/◌, ◌%◌, ◌^◌}
use native.Mathlib.Omega.{arith}
use lib.ListN.{take, get_or}
use borrow.Author.Tests.{eq-eqb, eqb-true}
use Rattle.laws.specs.Bits.{bit}
use Rattle.laws.specs.Members.{Among}
use Rattle.laws.proofs.Tests.{never_both}
use Rattle.paper_nests.specs.declared.Dependence as DE
use Rattle.paper_nests.specs.declared.Nest as DN
use Rattle.paper_nests.specs.Nests.{Dep, Nest}
use Rattle.paper_nests.specs.Valid.{is_valid}
use Rattle.paper_nests.specs.Stored.{dep_in, nest_in}
use Rattle.paper_placements.specs.Words.{holds}
use Rattle.desk.specs.declared.Desk as DD
use Rattle.desk.specs.Desks.{Desk, desk_in, IsMade, state_fault}
use Rattle.pages.specs.Demands.{In, paper_in, KeyOn, OutOfTurn}
use Rattle.pages.proofs.Placements.{mapped, nest_of, nest_of_paper}
use Rattle.pages.proofs.Texts.{unmapped, unmap}
use Rattle.pages.proofs.Kept.{paper_on, flags_of, same_paper}

-- a dependence of the nest is one of the paper
pub mapped_in
    : (xs : List DE.Dependence) (e : Dep) → Among e (mapped xs) → (x : DE.Dependence) × (In x xs × (e ≡ dep_in x))
mapped_in [] e a = absurd a
mapped_in (x ∷ xs) e (inl a) = (x, ((0, refl), a))
mapped_in (x ∷ xs) e (inr a) =
    let q = mapped_in xs e a in
    (q.0, ((suc q.1.0.0, q.1.0.1), q.1.1))

module _ (d : DD.Desk) (m : IsMade d) where
  pub page_valid : d.loaded ≡ true → is_valid (nest_of (paper_on d) (flags_of d)) ≡ true
  page_valid h = ap is_valid (sym (nest_of_paper d.nest)) ∙ m.paper.valid h

  -- a desk with a key has a nest
  pub key_loaded : d.planned ≡ true → d.loaded ≡ true
  key_loaded k = go d.loaded refl
    where
      go : (t : Bool) → d.loaded ≡ t → t ≡ true
      go true a = refl
      go false a = never_both k (ap (λ (x : Desk). x.has_key) (m.paper.no_nest a))

  pub key_state : (key : List ℕ) → KeyOn d key → state_fault true (desk_in d) ≡ 0
  key_state key k = rw (key_loaded k.planned, k.planned)

-- 10, and 11 where a key is wanted
pub nest_state : (d : DD.Desk) → d.loaded ≡ true → state_fault false (desk_in d) ≡ 0
nest_state d h = rw h

pub no_nest_state : (d : DD.Desk) → d.loaded ≡ false → state_fault false (desk_in d) ≡ 10
no_nest_state d h = rw h

pub turn_state : (d : DD.Desk) (n : ℕ) → OutOfTurn d n → (state_fault true (desk_in d) ≡ n) × (n ≡ 0 → ⊥)
turn_state d n (OutOfTurn.no_nest z) = (rw z, λ q. omega arith)
turn_state d n (OutOfTurn.no_key y z) = (rw (y, z), λ q. omega arith)

-- the bits of a set
abbrev pub BitOf : List ℕ → ℕ → Type 0
BitOf ws l = get_or ws (l / 64) 0 / 2 ^ (l % 64) % 2 ≡ 1

pub bit_is : (ws : List ℕ) (l : ℕ) → BitOf ws l → holds ws l ≡ true
unfolding holds bit
bit_is ws l h = eq-eqb (get_or ws (l / 64) 0 / 2 ^ (l % 64) % 2) 1 h

pub is_bit : (ws : List ℕ) (l : ℕ) → holds ws l ≡ true → BitOf ws l
unfolding holds bit
is_bit ws l h = eqb-true (get_or ws (l / 64) 0 / 2 ^ (l % 64) % 2) 1 h

-- one nest has one paper
pub papers_same : (n o : DN.Nest) → nest_in o ≡ nest_in n → paper_in o ≡ paper_in n
papers_same n o q =
    let p = paper_in o in
    let r = paper_in n in
    let z : nest_of p (take o.flags o.flagged) ≡ nest_of r (take n.flags n.flagged) =
    sym (nest_of_paper o) ∙ q ∙ nest_of_paper n in
    same_paper p.points r.points p.deps r.deps p.barred r.barred (ap (λ (x : Nest). x.points) z)
    (sym (unmap p.deps) ∙ ap unmapped (ap (λ (x : Nest). x.deps) z) ∙ unmap r.deps)
    (ap (λ (x : Nest). x.barred) z)
