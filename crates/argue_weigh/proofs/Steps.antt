-- The gaps of a step, one after the other from the last to the first: what a turn keeps, and one law for each way
-- through it.
-- Main statements: `number_when`; `fine_by`; `Naming`, `name_on`, `name_stop`.
use mathlib.Core.Path.{◌≡◌, refl, sym, ap, ◌∙◌}
use mathlib.Core.Bool.{Bool, true, false}
use mathlib.Core.List.{List}
use mathlib.Core.Logic.{◌⊎◌, inl, inr}
use Prim.Native.Nat.{ℕ, zero, suc, ◌+◌, ◌-◌, ◌≤◌, ◌<◌}
use native.Mathlib.Omega.{arith}
use mir.Val.{bool_byte}
use lib.ListN.{length, set, length-set}
use Rattle.laws.specs.Choice.{when}
use Rattle.laws.specs.Entries.{at}
use Rattle.laws.proofs.Stores.{stored}
use Rattle.argue_claims.specs.Arguments.{every, named}
use Rattle.argue_weigh.specs.Naming.{left_at, lies_at, fine_at}

-- a test as a number
pub number_when : (b : Bool) → bool_byte b ≡ when b 1
number_when true = refl
number_when false = refl

pub fine_by
    : (ws : List ℕ) (d e g : ℕ) (owners : List ℕ) (left : Bool) (gone struck : List ℕ) (r t : Bool)
    → left ≡ left_at ws gone struck d g
    → r ≡ lies_at ws left owners d e g
    → r ≡ t
    → fine_at ws gone owners struck d e g ≡ t
fine_by ws d e g owners left gone struck r t l h z =
    ap (λ (x : Bool). lies_at ws x owners d e g) (sym l) ∙ sym h ∙ z

-- the gaps from g + 1 to `last` are fine, and those that are left were named
pub record Naming (fine left : ℕ → Bool) (last : ℕ) (old : List ℕ) (g : ℕ) (new : List ℕ) : Type 0 where
  pub inside : g ≤ last
  pub on : every fine last ≡ every fine g
  pub long : length new ≡ length old
  pub more : (i : ℕ) → g < i → i ≤ last → at new i ≡ named left (at old) i
  pub rest : (i : ℕ) → (i ≤ g) ⊎ (last < i) → at new i ≡ at old i

every_on : (fine : ℕ → Bool) (g : ℕ) → 0 < g → fine g ≡ true → every fine g ≡ every fine (g - 1)
every_on fine zero p h = absurd (omega arith)
every_on fine (suc g) p h =
    let z : suc g - 1 ≡ g = omega arith in
    rw (h, z) refl

every_stop : (fine : ℕ → Bool) (g : ℕ) → 0 < g → fine g ≡ false → every fine g ≡ false
every_stop fine zero p h = absurd (omega arith)
every_stop fine (suc g) p h = rw h refl

module _ {fine left : ℕ → Bool} {last : ℕ} {old : List ℕ} {g : ℕ} {new : List ℕ}
    (n : Naming fine left last old g new) (pos : 0 < g) where
  pub name_stop : fine g ≡ false → false ≡ every fine last
  name_stop h = sym (n.on ∙ every_stop fine g pos h)

  pub name_on
      : (c : ℕ)
      → fine g ≡ true
      → c ≡ when (left g) 1
      → g < length new
      → Naming fine left last old (g - 1) (set new g (at new g + c))
  name_on c h e fits =
      record {
        inside = omega (arith, n.inside);
        on = n.on ∙ every_on fine g pos h;
        long = length-set new g (at new g + c) ∙ n.long;
        more = λ i p q. stored new g (at new g + c) i (named left (at old) i) fits
            (λ z. here i z) (λ z. n.more i (omega (arith, z, p, pos)) q);
        rest = λ i p. stored new g (at new g + c) i (at old i) fits
            (λ z. absurd (apart i p z)) (λ z. n.rest i (below i p));
      }
    where
      here : (i : ℕ) → i ≡ g → at new g + c ≡ named left (at old) i
      here i z =
          let k : at new g ≡ at old g = n.rest g (inl (omega arith)) in
          let w : when (left g) 1 ≡ when (left i) 1 = ap (λ (j : ℕ). when (left j) 1) (sym z) in
          let o : at old g ≡ at old i = ap (at old) (sym z) in
          omega (arith, k, e, w, o)

      apart : (i : ℕ) → (i ≤ g - 1) ⊎ (last < i) → i ≡ g → ⊥
      apart i (inl p) z = omega (arith, p, z, pos)
      apart i (inr p) z = omega (arith, p, z, n.inside)

      below : (i : ℕ) → (i ≤ g - 1) ⊎ (last < i) → (i ≤ g) ⊎ (last < i)
      below i (inl p) = inl (omega (arith, p))
      below i (inr p) = inr p
