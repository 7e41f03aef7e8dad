-- A list of records in bytes.
-- Main definitions: `records_of`, `bytes_of`, `WholeRecords`, `LeftOver`.
use Rattle.std.specs.Prelude.{◌≡◌, List, [], ◌∷◌, ◌++◌, ℕ, ◌+◌, ◌<◌, length}
use Rattle.paper_nests.specs.Nests.{Dep, dep}
use Rattle.desk.specs.Desks.{fault, list_fault}

-- a record of no kind: 01, "Numbers from the input", gives it number 2, whatever the points
abbrev pub no_record : Dep
no_record = dep 0 0 0 0

-- 01, "The desk": records (kind, d, s, t), here a byte each. What is left over at the end is no record.
unfoldable pub records_of : List ℕ → List Dep
records_of [] = []
records_of (k ∷ d ∷ s ∷ t ∷ bs) = dep k d s t ∷ records_of bs
records_of (k ∷ d ∷ s ∷ []) = no_record ∷ []
records_of (k ∷ d ∷ []) = no_record ∷ []
records_of (k ∷ []) = no_record ∷ []

-- the bytes of a list of records
abbrev pub bytes_of : List Dep → List ℕ
bytes_of [] = []
bytes_of (e ∷ es) = e.kind ∷ e.d ∷ e.s ∷ e.t ∷ bytes_of es

abbrev pub WholeRecords : Type 0
WholeRecords = (es : List Dep) → records_of (bytes_of es) ≡ es

-- bytes left over after records without fault are number 2, and their place is that after the last record
abbrev pub LeftOver : Type 0
LeftOver =
    (ps : List ℕ) (es : List Dep) (bs : List ℕ) →
    (list_fault 1 ps es).number ≡ 0 →
    0 < length bs → length bs < 4 → list_fault 1 ps (records_of (bytes_of es ++ bs)) ≡ fault 2 (length es + 1)
