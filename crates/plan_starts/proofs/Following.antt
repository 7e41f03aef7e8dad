-- What is made from each start on, from left to right: a link lies before its start, so that it is there already.
-- Main definition: `Following`. Main statement: `following_more`.
use mathlib.Core.Path.{◌≡◌, sym, ◌∙◌, ap}
use mathlib.Core.List.{List}
use mathlib.Core.Logic.{⊎_elim}
use Prim.Native.Nat.{ℕ, zero, suc, ◌+◌, ◌≤◌, ◌<◌}
use native.Mathlib.Omega.{arith}
use lib.ListN.{length, set, length-set}
use lib.Seq.{get_or-set_same, get_or-set_other}
use Rattle.laws.specs.Choice.{first_of}
use Rattle.laws.specs.Entries.{at}
use Rattle.laws.proofs.Tests.{eq_or}
use Rattle.laws.proofs.Stores.{stored}
use Rattle.plan_starts.specs.Started.{Fit, Followed, FollowRoom}

pub record Following (link cs₀ fs₀ : List ℕ) (d e : ℕ) (cs fs : List ℕ) (p : ℕ) : Type 0 where
  pub low : d ≤ p
  pub high : p ≤ e
  pub cs_length : length cs ≡ length cs₀
  pub fs_length : length fs ≡ length fs₀
  pub sofar : Followed link cs₀ fs₀ cs fs d e p
  pub c_rest : (x : ℕ) → p < x → at cs x ≡ at cs₀ x
  pub f_rest : (x : ℕ) → p < x → at fs x ≡ at fs₀ x

-- the first of two numbers lies where both lie
first_within : (d e a b : ℕ) → (0 < a → d < a) → a ≤ e → d < b → b ≤ e → (d < first_of a b) × (first_of a b ≤ e)
first_within d e zero b h i j k = (j, k)
first_within d e (suc a) b h i j k = (h (omega arith), i)

module _ {link cs₀ fs₀ : List ℕ} {d e : ℕ} (room : FollowRoom d e link cs₀ fs₀) where
  module _ {cs fs : List ℕ} {p : ℕ} (s : Following link cs₀ fs₀ d e cs fs p) (before : p < e) where
    -- the next start: its event, its link, and what is made from the link on
    front_is : at fs (p + 1) ≡ at fs₀ (p + 1)
    front_is = s.f_rest (p + 1) (omega arith)

    fit : Fit d e cs₀ fs₀ link (p + 1)
    fit = room.fits (p + 1) (omega (arith, s.low)) (omega arith)

    link_small : (n : ℕ) → n ≤ p → (0 < n → d < n) → (at cs n ≤ n) × ((0 < at fs n → d < at fs n) × (at fs n ≤ e))
    link_small zero i h = (
      omega (arith, s.sofar.c_none),
      (λ z. absurd (omega (arith, s.sofar.f_none)), omega (arith, s.sofar.f_none)),
    )
    link_small (suc n) i h = (
      s.sofar.small (suc n) (h (omega arith)) i,
      (λ z. s.sofar.low (suc n) (h (omega arith)) i, s.sofar.high (suc n) (h (omega arith)) i),
    )

    link_is : at link (at fs (p + 1)) ≡ at link (at fs₀ (p + 1))
    link_is = ap (at link) front_is

    linked : at link (at fs (p + 1)) ≤ p
    linked = omega (arith, link_is, fit.link_high)

    sized : (at cs (at link (at fs (p + 1))) ≤ at link (at fs (p + 1))) × ((0 < at fs (at link (at fs (p + 1))) → d <
        at fs (at link (at fs (p + 1)))) × (at fs (at link (at fs (p + 1))) ≤ e))
    sized = link_small (at link (at fs (p + 1))) linked (λ z. omega
        (arith, link_is, fit.link_low (omega (arith, link_is))))

    -- the link of the next start
    abbrev n : ℕ
    n = at link (at fs (p + 1))

    -- what is made from the next start on
    abbrev c : ℕ
    c = at cs (p + 1) + at cs n

    c_small : c ≤ p + 1
    c_small = omega (arith, s.c_rest (p + 1) (omega arith), fit.cost, sized.0, linked)

    pub following_more
        : {f : ℕ}
        → f ≡ first_of (at fs n) (at fs (p + 1))
        → Following link cs₀ fs₀ d e (set cs (p + 1) c) (set fs (p + 1) f) (p + 1)
    following_more {f} fi =
        record {
          low = omega (arith, s.low);
          high = omega arith;
          cs_length = length-set cs (p + 1) c ∙ s.cs_length;
          fs_length = length-set fs (p + 1) f ∙ s.fs_length;
          sofar =
              record {
                c_is = λ x i j. stored cs (p + 1) c x (at cs₀ x + at (set cs (p + 1) c) (at link (at fs₀ x))) rc
                    (λ (z : x ≡ p + 1). rw z here_c) (λ (z : x ≡ p + 1 → ⊥). old_c x i (omega (arith, z)));
                f_is = λ x i j. stored fs (p + 1) f x
                    (first_of (at (set fs (p + 1) f) (at link (at fs₀ x))) (at fs₀ x))
                    rf (λ (z : x ≡ p + 1). rw z here_f) (λ (z : x ≡ p + 1 → ⊥). old_f x i (omega (arith, z)));
                small = λ x i j. at_each (λ (y v : ℕ). v ≤ y) cs c rc c_small s.sofar.small
                    x i j;
                low = λ x i j. at_each (λ (y v : ℕ). d < v) fs f rf within.0 s.sofar.low x i j;
                high = λ x i j. at_each (λ (y v : ℕ). v ≤ e) fs f rf within.1 s.sofar.high x i j;
                c_none = get_or-set_other cs (p + 1) 0 c 0 (λ (z : 0 ≡ p + 1). omega arith) ∙ s.sofar.c_none;
                f_none = get_or-set_other fs (p + 1) 0 f 0 (λ (z : 0 ≡ p + 1). omega arith) ∙ s.sofar.f_none;
              };
          c_rest = λ x h. get_or-set_other cs (p + 1) x c 0 (λ (z : x ≡ p + 1). omega arith) ∙
              s.c_rest x (omega arith);
          f_rest = λ x h. get_or-set_other fs (p + 1) x f 0 (λ (z : x ≡ p + 1). omega arith) ∙
              s.f_rest x (omega arith);
        }
      where
        at_each
            : (R : ℕ → ℕ → Type 0) (xs : List ℕ) (v : ℕ)
            → p + 1 < length xs
            → R (p + 1) v
            → ((x : ℕ) → d < x → x ≤ p → R x (at xs x))
            → (x : ℕ)
            → d < x
            → x ≤ p + 1
            → R x (at (set xs (p + 1) v) x)
        at_each R xs v r new old x i j = ⊎_elim
            (λ (z : x ≡ p + 1). rw (z, get_or-set_same xs (p + 1) v 0 r) new)
            (λ (z : x ≡ p + 1 → ⊥). rw (get_or-set_other xs (p + 1) x v 0 z) (old x i (omega (arith, z))))
            (eq_or x (p + 1))

        rc : p + 1 < length cs
        rc = omega (arith, room.cs_room, s.cs_length)

        rf : p + 1 < length fs
        rf = omega (arith, room.fs_room, s.fs_length)

        to_link : at link (at fs₀ (p + 1)) ≡ n
        to_link = sym link_is

        within : (d < f) × (f ≤ e)
        within = rw fi (first_within d e (at fs (at link (at fs (p + 1)))) (at fs (p + 1)) sized.1.0
            sized.1.1
            (omega (arith, front_is, fit.front_low)) (omega (arith, front_is, fit.front_high)))

        here_c : c ≡ at cs₀ (p + 1) + at (set cs (p + 1) c) (at link (at fs₀ (p + 1)))
        here_c =
            let z : at (set cs (p + 1) c) n ≡ at cs n =
            get_or-set_other cs (p + 1) n c 0 (λ (y : n ≡ p + 1). omega (arith, linked)) in
            rw to_link (omega (arith, z, s.c_rest (p + 1) (omega arith)))

        here_f : f ≡ first_of (at (set fs (p + 1) f) (at link (at fs₀ (p + 1)))) (at fs₀ (p + 1))
        here_f =
            let z : at (set fs (p + 1) f) n ≡ at fs n =
            get_or-set_other fs (p + 1) n f 0 (λ (y : n ≡ p + 1). omega (arith, linked)) in
            rw (to_link, z, ← front_is) fi

        old_c : (x : ℕ) → d < x → x ≤ p → at cs x ≡ at cs₀ x + at (set cs (p + 1) c) (at link (at fs₀ x))
        old_c x i j =
            rw (get_or-set_other cs (p + 1) (at link (at fs₀ x)) c 0
            (λ (z : at link (at fs₀ x) ≡ p + 1). omega (arith, (room.fits x i (omega arith)).link_high)))
            (s.sofar.c_is x i j)

        old_f : (x : ℕ) → d < x → x ≤ p → at fs x ≡ first_of (at (set fs (p + 1) f) (at link (at fs₀ x))) (at fs₀ x)
        old_f x i j =
            rw (get_or-set_other fs (p + 1) (at link (at fs₀ x)) f 0
            (λ (z : at link (at fs₀ x) ≡ p + 1). omega (arith, (room.fits x i (omega arith)).link_high)))
            (s.sofar.f_is x i j)
