-- What Mark promises in numbers, and which version the library says that it is.
-- Main definitions: `MarkSays`, `VersionSays`.
use Rattle.std.specs.Prelude.{◌≡◌, List, ℕ}
use Rattle.desk.specs.declared.Desk as DD
use Rattle.desk.specs.Desks.{desk_in}
use Rattle.desk.specs.Says.{marked}
use Rattle.host.specs.declared.Mark as HM
use Rattle.host.specs.declared.Version as HV
use Rattle.host.specs.Marks.{mark_out}

-- Mark changes nothing; its answer is the desk's, in numbers
abbrev pub MarkSays : DD.Desk → List ℕ → HM.Mark → Type 0
MarkSays d s r = r ≡ mark_out (marked (desk_in d) s)

-- the version of this library: 1.0.0
abbrev pub VersionSays : HV.Version → Type 0
VersionSays r = r ≡ record { major = 1; minor = 0; patch = 0 }
