-- A hart record and its words, and its row of a table. Assumes nothing.
use Prim.Native.Nat.{ℕ, ◌+◌, ◌*◌, ◌≤◌}
use mathlib.Core.Path.{◌≡◌, refl, ap, ◌∙◌}
use mathlib.Core.Logic.{◌≢◌}
use mathlib.Core.List.{List}
use lib.ListN.{length, get_or, take, drop}
use Rattle.table_rows.specs.Rows.{row, put, word_at}
use Rattle.table_rows.proofs.RowLaws.{words_all, row_length, put_row, row_put_same, row_put_other}
use Rattle.confidential_hart.specs.declared.ConfidentialHart.{ConfidentialHart}
use Rattle.confidential_hart.specs.Hart.{register_count, hart_of, well_formed}
use Rattle.hart_rows.specs.HartRows.{vm_word, id_word, lifecycle_word, operation_word, x_word, y_word, register_word, hart_words, from_words, to_words, hart_at}

pub to_length : (h : ConfidentialHart) → length (to_words h) ≡ hart_words
unfolding to_words
to_length h = refl

-- a record with its six registers is what its words hold
pub from_to : (h : ConfidentialHart) → length h.registers ≡ register_count → from_words (to_words h) ≡ h
unfolding to_words
from_to h e = rw (words_all register_count h.registers e)

-- twelve words are those of what they hold
pub to_from : (ws : List ℕ) → length ws ≡ hart_words → to_words (from_words ws) ≡ ws
unfolding to_words
to_from ws e = words_all hart_words ws e

-- the registers of what they hold are the last six
pub from_registers : (ws : List ℕ) → length ws ≡ hart_words → (from_words ws).registers ≡ take register_count (drop register_word ws)
from_registers ws e = ap (λ (l : List ℕ). take register_count (drop register_word l)) (words_all hart_words ws e)

-- a row in its place, with its VM, is well formed exactly when its record is; the number is not looked at
pub row_formed : (vm : ℕ) (ws : List ℕ) → length ws ≡ hart_words → vm ≡ get_or ws vm_word 0
    → well_formed (hart_of vm 0 (get_or ws lifecycle_word 0) (get_or ws operation_word 0) (get_or ws x_word 0) (get_or ws y_word 0) (take register_count (drop register_word ws)))
    ≡ well_formed (from_words ws)
unfolding well_formed
row_formed vm ws e v = rw (v, ← (from_registers ws e))

-- ---- its row

module _ (rows : List ℕ) (i : ℕ) (fits : i * hart_words + hart_words ≤ length rows) where
  -- the words of what is loaded are the row
  pub loaded_words : to_words (hart_at rows i) ≡ row hart_words rows i
  unfolding hart_at
  loaded_words = to_from (row hart_words rows i) (row_length hart_words rows i fits)

  -- a record that is stored where it was loaded leaves the table as it was
  pub store_loaded : put hart_words rows i (to_words (hart_at rows i)) ≡ rows
  store_loaded = ap (put hart_words rows i) loaded_words ∙ put_row hart_words rows i fits

  -- what is stored is loaded, and another row is as it was
  pub load_store : (h : ConfidentialHart) → length h.registers ≡ register_count → hart_at (put hart_words rows i (to_words h)) i ≡ h
  unfolding hart_at
  load_store h e = rw (row_put_same hart_words rows i fits (to_words h) (to_length h)) (from_to h e)

  pub load_store_other : (h : ConfidentialHart) (j : ℕ) → j ≢ i → j * hart_words + hart_words ≤ length rows
      → hart_at (put hart_words rows i (to_words h)) j ≡ hart_at rows j
  unfolding hart_at
  load_store_other h j ne m = ap from_words (row_put_other hart_words rows i fits (to_words h) (to_length h) j ne m)

-- a word of a row, read in its place, is the record's part
module _ (rows : List ℕ) (i : ℕ) where
  pub vm_word_lem : word_at hart_words rows i vm_word ≡ (hart_at rows i).vm
  unfolding word_at hart_at
  vm_word_lem = refl

  pub id_word_lem : word_at hart_words rows i id_word ≡ (hart_at rows i).id
  unfolding word_at hart_at
  id_word_lem = refl

  pub lifecycle_word_lem : word_at hart_words rows i lifecycle_word ≡ (hart_at rows i).lifecycle
  unfolding word_at hart_at
  lifecycle_word_lem = refl

  pub operation_word_lem : word_at hart_words rows i operation_word ≡ (hart_at rows i).operation
  unfolding word_at hart_at
  operation_word_lem = refl
