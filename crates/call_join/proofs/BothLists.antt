-- Two lists, one after the other: whose members are whose; and dependences moved along.
-- Main statements: `in_both`, `in-front`, `in_back`; `among_both`; `among_moved`, `moved_among`.
use mathlib.Core.Path.{◌≡◌, refl, ap, sym, subst}
use mathlib.Core.Bool.{true}
use mathlib.Core.List.{List, [], ◌∷◌, ◌++◌}
use mathlib.Core.Logic.{◌⊎◌, inl, inr, ⊎_elim}
use Prim.Native.Nat.{ℕ}
use Rattle.laws.specs.Choice.{is_in}
use Rattle.laws.specs.Members.{Among}
use Rattle.laws.proofs.Tests.{never}
use Rattle.laws.proofs.Members.{in_here, in_later, in_cons}
use Rattle.paper_nests.specs.Nests.{Dep}
use Rattle.call_join.specs.JointNests.{moved_dep, moved_deps}

-- ---- members of two lists, one after the other

here_by : (x y : ℕ) (ys : List ℕ) → x ≡ y → is_in x (y ∷ ys) ≡ true
here_by x y ys z = let P : ℕ → Type 0 = λ n. is_in n (y ∷ ys) ≡ true in subst P (sym z) (in_here y ys)

pub in_both : (x : ℕ) (xs ys : List ℕ) → is_in x (xs ++ ys) ≡ true → (is_in x xs ≡ true) ⊎ (is_in x ys ≡ true)
in_both x [] ys h = inr h
in_both x (y ∷ xs) ys h = ⊎_elim
    (λ (z : x ≡ y). inl (here_by x y xs z))
    (λ (z : is_in x (xs ++ ys) ≡ true). ⊎_elim
    (λ (w : is_in x xs ≡ true). inl (in_later x y xs w))
    (λ (w : is_in x ys ≡ true). inr w)
    (in_both x xs ys z))
    (in_cons x y (xs ++ ys) h)

pub in-front : (x : ℕ) (xs ys : List ℕ) → is_in x xs ≡ true → is_in x (xs ++ ys) ≡ true
in-front x [] ys h = never h
in-front x (y ∷ xs) ys h = ⊎_elim
    (λ (z : x ≡ y). here_by x y (xs ++ ys) z)
    (λ (z : is_in x xs ≡ true). in_later x y (xs ++ ys) (in-front x xs ys z))
    (in_cons x y xs h)

pub in_back : (x : ℕ) (xs ys : List ℕ) → is_in x ys ≡ true → is_in x (xs ++ ys) ≡ true
in_back x [] ys h = h
in_back x (y ∷ xs) ys h = in_later x y (xs ++ ys) (in_back x xs ys h)

pub among_both : (e : Dep) (xs ys : List Dep) → Among e (xs ++ ys) → Among e xs ⊎ Among e ys
among_both e [] ys a = inr a
among_both e (x ∷ xs) ys a = ⊎_elim
    (λ (z : e ≡ x). inl (inl z))
    (λ (z : Among e (xs ++ ys)). ⊎_elim
    (λ (w : Among e xs). inl (inr w))
    (λ (w : Among e ys). inr w)
    (among_both e xs ys z))
    a

-- ---- dependences moved along

pub among_moved : (k : ℕ) (e : Dep) (es : List Dep) → Among e es → Among (moved_dep k e) (moved_deps k es)
among_moved k e [] a = absurd a
among_moved k e (x ∷ es) a =
    ⊎_elim (λ (z : e ≡ x). inl (ap (moved_dep k) z)) (λ (z : Among e es). inr (among_moved k e es z)) a

pub record MovedFrom (k : ℕ) (es : List Dep) (x : Dep) : Type 0 where
  pub from : Dep
  pub among : Among from es
  pub is : x ≡ moved_dep k from

pub moved_among : (k : ℕ) (x : Dep) (es : List Dep) → Among x (moved_deps k es) → MovedFrom k es x
moved_among k x [] a = absurd a
moved_among k x (e ∷ es) a = ⊎_elim
    (λ (z : x ≡ moved_dep k e). record { from = e; among = inl refl; is = z })
    (λ (z : Among x (moved_deps k es)).
    let r = moved_among k x es z in
    record { from = r.from; among = inr r.among; is = r.is })
    a
