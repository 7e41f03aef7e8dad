-- A sheet worked out by the page alone: processor 0 works 3 and 1, processor 1 works 1 and 3, and each waits for
-- itself. The run ends at 4, with all barriers kept at 6. So the page excludes a program that gives the end with all
-- barriers for both, one that says that every run ends at once, and one that refuses each sheet.
-- Main statements: `apart_ends`, `sheets_excluded`.
use mathlib.Core.Path.{◌≡◌, refl, sym, ◌∙◌, subst}
use mathlib.Core.List.{List, [], ◌∷◌}
use Prim.Native.Nat.{ℕ, zero, suc, ◌+◌, ◌*◌, ◌/◌, ◌%◌, ◌^◌, ◌≤◌, ◌<◌}
use native.Mathlib.Omega.{arith}
use borrow.Author.Tests.{eq-eqb, eqb-true}
use Rattle.laws.specs.Bits.{bit}
use Rattle.laws.proofs.Bits.{bit_one}
use Rattle.call_sheet.specs.declared.RunEnds.{RunEnds}
use Rattle.pages.specs.Demands.{At}
use Rattle.pages.proofs.Lists.{at_in}
use Rattle.pages_calls.specs.Sheets.{Member, Sized, OwnSets, Number, Waiting, Everyone, Latest, Finish, End, Told}

abbrev durations : List ℕ
durations = 3 ∷ 1 ∷ 1 ∷ 3 ∷ []

abbrev waits : List ℕ
waits = 1 ∷ 2 ∷ []

-- the set with one member
only_member : (k q : ℕ) → Member (2 ^ k) q → q ≡ k
unfolding bit
only_member k q h = eqb-true q k (sym (bit_one k q) ∙ eq-eqb (2 ^ k / 2 ^ q % 2) 1 h)

own_waits : (p q : ℕ) → p < 2 → Waiting waits 2 0 p q → q ≡ p
own_waits zero q l (v, (a, b)) = only_member 0 q (subst (λ (x : ℕ). Member x q) (sym a) b)
own_waits (suc zero) q l (v, (a, b)) = only_member 1 q (subst (λ (x : ℕ). Member x q) (sym a) b)
own_waits (suc (suc p)) q l w = absurd (omega arith)

finish_4 : (p x : ℕ) → p < 2 → Finish 2 durations (Waiting waits 2) 1 p x → x ≡ 4
finish_4 zero x l (t, (y, (w, a, e))) =
    let z = own_waits 0 w.one.0 l w.one.1.0 in
    let b : At durations 0 t = subst (λ (q : ℕ). At durations q t) z w.one.1.1 in
    omega (arith, a, b, e)
finish_4 (suc zero) x l (t, (y, (w, a, e))) =
    let z = own_waits 1 w.one.0 l w.one.1.0 in
    let b : At durations 1 t = subst (λ (q : ℕ). At durations q t) z w.one.1.1 in
    omega (arith, a, b, e)
finish_4 (suc (suc p)) x l f = absurd (omega arith)

-- with all barriers kept: the first phase lasts 3
latest_3 : (t : ℕ) → Latest (Everyone 2 0 0) (Finish 2 durations (Everyone 2) 0) t → t ≡ 3
latest_3 t w = go w.one.0 w.one.1.0 w.one.1.1 (w.none_later 0 3 (omega arith) refl)
  where
    go : (q : ℕ) → q < 2 → At durations q t → 3 ≤ t → t ≡ 3
    go zero l a b = sym a
    go (suc zero) l a b = absurd (omega (arith, a, b))
    go (suc (suc q)) l a b = absurd (omega arith)

phase_3 : Latest (λ q. q < 2) (λ q x. At durations q x) 3
phase_3 = record { one = (0, (omega arith, refl)); none_later = λ q x l a. below q x l a }
  where
    below : (q x : ℕ) → q < 2 → At durations q x → x ≤ 3
    below zero x l a = omega (arith, a)
    below (suc zero) x l a = omega (arith, a)
    below (suc (suc q)) x l a = absurd (omega arith)

end_6 : (x : ℕ) → End 2 2 durations (Everyone 2) x → x ≡ 6
end_6 x (zero, (e, w)) = absurd (omega (arith, e))
end_6 x (suc zero, (e, w)) =
    go w.one.0 w.one.1.0 w.one.1.1 (w.none_later 1 6 (omega arith) (3, (3, (phase_3, refl, refl))))
  where
    go : (q : ℕ) → q < 2 → Finish 2 durations (Everyone 2) 1 q x → 6 ≤ x → x ≡ 6
    go zero l (t, (y, (v, a, f))) b = absurd (omega (arith, latest_3 t v, a, f, b))
    go (suc zero) l (t, (y, (v, a, f))) b = omega (arith, latest_3 t v, a, f)
    go (suc (suc q)) l f b = absurd (omega arith)
end_6 x (suc (suc k), (e, w)) = absurd (omega (arith, e))

end_4 : (x : ℕ) → End 2 2 durations (Waiting waits 2) x → x ≡ 4
end_4 x (zero, (e, w)) = absurd (omega (arith, e))
end_4 x (suc zero, (e, w)) = finish_4 w.one.0 x w.one.1.0 w.one.1.1
end_4 x (suc (suc k), (e, w)) = absurd (omega (arith, e))

own_sets : OwnSets 2 waits
own_sets = record { own = own; there = there }
  where
    own : (k p v : ℕ) → p < 2 → At waits (k * 2 + p) v → Member v p
    own zero zero v l a = subst (λ (x : ℕ). Member x 0) a refl
    own zero (suc zero) v l a = subst (λ (x : ℕ). Member x 1) a refl
    own zero (suc (suc p)) v l a = absurd (omega arith)
    own (suc k) p v l a = absurd (omega (arith, at_in waits (suc k * 2 + p) v a))

    there : (k p v q : ℕ) → p < 2 → At waits (k * 2 + p) v → Member v q → q < 2
    there zero zero v q l a b = omega (arith, only_member 0 q (subst (λ (x : ℕ). Member x q) (sym a) b))
    there zero (suc zero) v q l a b = omega (arith, only_member 1 q (subst (λ (x : ℕ). Member x q) (sym a) b))
    there zero (suc (suc p)) v q l a b = absurd (omega arith)
    there (suc k) p v q l a b = absurd (omega (arith, at_in waits (suc k * 2 + p) v a))

sized : Sized 2 2 durations waits
sized =
    record {
      processors = (omega arith, omega arith);
      phases = (omega arith, omega arith);
      durations = refl;
      waits = refl;
    }

pub record Apart (r : RunEnds) : Type 0 where
  pub number_0 : r.number ≡ 0
  pub waiting_4 : r.waiting ≡ 4
  pub barriers_6 : r.barriers ≡ 6

pub apart_ends : (r : RunEnds) → Told 2 2 durations waits r → Apart r
apart_ends r h =
    let z = go r.number h.number in
    record {
      number_0 = z;
      waiting_4 = end_4 r.waiting (h.waiting z);
      barriers_6 = end_6 r.barriers
          (h.barriers z);
    }
  where
    go : (k : ℕ) → Number 2 2 durations waits k → k ≡ 0
    go k (Number.size x) = absurd (x sized)
    go k (Number.sets x y) = absurd (y own_sets)
    go k (Number.none x y) = refl

-- a program's replies
abbrev Ends : Type 0
Ends = ℕ → ℕ → List ℕ → List ℕ → RunEnds

abbrev Keeps : Ends → Type 0
Keeps f = (m n : ℕ) (ds ws : List ℕ) → Told m n ds ws (f m n ds ws)

pub record SheetsExcluded : Type 0 where
  pub one_end : (f : Ends) → ((m n : ℕ) (ds ws : List ℕ) → (f m n ds ws).waiting ≡ (f m n ds ws).barriers) → Keeps f → ⊥
  pub no_time : (f : Ends) → ((m n : ℕ) (ds ws : List ℕ) → (f m n ds ws).waiting ≡ 0) → Keeps f → ⊥
  pub refuses_all : (f : Ends) → ((m n : ℕ) (ds ws : List ℕ) → (f m n ds ws).number ≡ 0 → ⊥) → Keeps f → ⊥

pub sheets_excluded : SheetsExcluded
sheets_excluded =
    record {
      one_end =
          λ f h k.
          let a = apart_ends (f 2 2 durations waits) (k 2 2 durations waits) in
          absurd (omega (arith, h 2 2 durations waits, a.waiting_4, a.barriers_6));
      no_time =
          λ f h k.
          absurd
          (omega (
            arith,
            h 2 2 durations waits,
            (apart_ends (f 2 2 durations waits) (k 2 2 durations waits)).waiting_4,
          ));
      refuses_all =
          λ f h k. h 2 2 durations waits (apart_ends (f 2 2 durations waits) (k 2 2 durations waits)).number_0;
    }
