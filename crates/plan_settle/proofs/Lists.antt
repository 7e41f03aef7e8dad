-- The lists that rows are made in: whatever is written there, their lengths stay.
-- Main definition: `Lent`. Main statements: `lent_all`, `lent_on`, `lent_room`.
use mathlib.Core.Path.{◌≡◌, refl, ◌∙◌}
use mathlib.Core.List.{List}
use Prim.Native.Nat.{ℕ}
use native.Mathlib.Omega.{arith}
use lib.ListN.{length}
use Rattle.plan_rows.specs.Made.{ListsRoom}

pub record Lent (need₀ cs₀ fs₀ link₀ need cs fs link : List ℕ) : Type 0 where
  pub need_length : length need ≡ length need₀
  pub cs_length : length cs ≡ length cs₀
  pub fs_length : length fs ≡ length fs₀
  pub link_length : length link ≡ length link₀

pub lent_all : {need cs fs link : List ℕ} → Lent need cs fs link need cs fs link
lent_all = record { need_length = refl; cs_length = refl; fs_length = refl; link_length = refl }

module _ {need₀ cs₀ fs₀ link₀ need cs fs link : List ℕ} (s : Lent need₀ cs₀ fs₀ link₀ need cs fs link) where
  pub lent_on
      : {need' cs' fs' link' : List ℕ}
      → Lent need cs fs link need' cs' fs' link'
      → Lent need₀ cs₀ fs₀ link₀ need' cs' fs' link'
  lent_on n =
      record {
        need_length = n.need_length ∙ s.need_length;
        cs_length = n.cs_length ∙ s.cs_length;
        fs_length = n.fs_length ∙ s.fs_length;
        link_length = n.link_length ∙ s.link_length;
      }

  pub lent_room : ListsRoom need₀ cs₀ fs₀ link₀ → ListsRoom need cs fs link
  lent_room r =
      record {
        need_room = omega (arith, s.need_length, r.need_room);
        cs_room = omega (arith, s.cs_length, r.cs_room);
        fs_room = omega (arith, s.fs_length, r.fs_room);
        link_room = omega (arith, s.link_length, r.link_room);
      }
