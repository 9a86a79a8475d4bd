-- The bytes of the fields. Assumes nothing.
use Rattle.std.specs.Prelude.{ℕ, ◌+◌, ◌-◌, Bool, cond, not, ◌&&◌, ◌||◌, List, length, ◌==◌, nat_lt, slice_index}
use Rattle.record.specs.declared.faults.FrameFault.{FrameFault}
use Rattle.record.specs.declared.faults.FrameFault.TheVariants.{Field}
use Rattle.record.specs.Classes.{within, code_character, separator, subfield_code}
use Rattle.record.specs.Directory.{entry_tag, entry_size, sizes_before}
use Rattle.record.specs.Figures.{part}
use Rattle.record.specs.Leader.{base, entry_count}
use Rattle.record.specs.Rules.{rule, over}

-- place i of the field is its last
abbrev pub last : List ℕ → ℕ → Bool
last field i = i + 1 == length field

-- 1E at the end, and nowhere else 1D, 1E or 1F
abbrev pub control_rule : List ℕ → ℕ → Bool
control_rule field i = cond (last field i) (slice_index field i == 30) (not (separator (slice_index field i)))

-- two indicators, 1F, a subfield code after each 1F; 1E at the end, and nowhere else 1D or 1E
abbrev pub data_rule : List ℕ → ℕ → Bool
data_rule field i =
    cond (nat_lt i 2) (code_character (slice_index field i))
    (cond (i == 2) (slice_index field i == 31)
    (not (slice_index field (i - 1) == 31) || subfield_code (slice_index field i)))
    && cond (last field i) (slice_index field i == 30) (not (within 29 30 (slice_index field i)))

-- tags below 10 are control fields
abbrev pub byte_rule : ℕ → List ℕ → ℕ → Bool
byte_rule tag field i = cond (nat_lt tag 10) (control_rule field i) (data_rule field i)

-- the faults of a field that begins at this place
unfoldable pub field_faults : ℕ → List ℕ → ℕ → List FrameFault
field_faults tag field place = over (λ i. rule (byte_rule tag field i) (Field (place + i))) 0 (length field)

-- where field k begins
abbrev pub field_place : List ℕ → ℕ → ℕ
field_place bs k = base bs + sizes_before bs k

-- the bytes of field k
abbrev pub field_bytes : List ℕ → ℕ → List ℕ
field_bytes bs k = part bs (field_place bs k) (entry_size bs k)

abbrev pub faults_of : List ℕ → ℕ → List FrameFault
faults_of bs k = field_faults (entry_tag bs k) (field_bytes bs k) (field_place bs k)

-- 21
unfoldable pub fields_faults : List ℕ → List FrameFault
fields_faults bs = over (faults_of bs) 0 (entry_count bs)
