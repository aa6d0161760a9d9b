-- A hart record as a row of a table: its words in their places.
use Rattle.std.specs.Prelude.{ℕ, ◌+◌, List, ◌∷◌, get_or}
use Rattle.table_rows.specs.Rows.{row, words}
use Rattle.confidential_hart.specs.declared.ConfidentialHart.{ConfidentialHart}
use Rattle.confidential_hart.specs.Hart.{register_count}

-- the places of a row's words: the registers are the last
abbrev pub vm_word : ℕ
vm_word = 0

abbrev pub id_word : ℕ
id_word = 1

abbrev pub lifecycle_word : ℕ
lifecycle_word = 2

abbrev pub operation_word : ℕ
operation_word = 3

abbrev pub x_word : ℕ
x_word = 4

abbrev pub y_word : ℕ
y_word = 5

abbrev pub register_word : ℕ
register_word = 6

-- how many words a row has
abbrev pub hart_words : ℕ
hart_words = register_word + register_count

-- the record that a row holds
abbrev pub from_words : List ℕ → ConfidentialHart
from_words ws =
    record {
      vm = get_or ws vm_word 0;
      id = get_or ws id_word 0;
      lifecycle = get_or ws lifecycle_word 0;
      operation = get_or ws operation_word 0;
      x = get_or ws x_word 0;
      y = get_or ws y_word 0;
      registers = words register_count ws register_word;
    }

-- the row of a record
unfoldable pub to_words : ConfidentialHart → List ℕ
to_words h = h.vm ∷ h.id ∷ h.lifecycle ∷ h.operation ∷ h.x ∷ h.y ∷ words register_count h.registers 0

-- the record in row i of a table
unfoldable pub hart_at : List ℕ → ℕ → ConfidentialHart
hart_at rows i = from_words (row hart_words rows i)
