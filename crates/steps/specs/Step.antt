-- A row step, and what it does to the table and the product. Assumes nothing.
use Rattle.std.specs.Prelude.{ℕ, ◌+◌, ◌-◌, ◌^◌, true, false, List, [], ◌∷◌, eqb}
use Rattle.std.specs.Int.Count.{count_trailing_zeros}
use Rattle.cells.specs.Digit.{Matrix, combine}
use Rattle.steps.specs.Matrix.{Row}

pub data Step : Type 0 where
  -- table row x is made, in the block whose first column is s
  table_step : (s x : ℕ) → Step
  -- the digit d times table row x is added to row i of the product
  row_step : (i d x : ℕ) → Step

-- table row P is added to row i of the product
abbrev pub plus : ℕ → ℕ → Step
plus i P = row_step i 1 P

-- table row N is subtracted from row i of the product
abbrev pub minus : ℕ → ℕ → Step
minus i N = row_step i 2 N

pub record State : Type 0 where
  pub table : Matrix
  pub product : Matrix

-- which bit is the lowest set bit of x: how many zeros trail it. A number x has at most x binary digits, so x are enough to look at.
unfoldable pub lowest_bit : ℕ → ℕ
lowest_bit x = count_trailing_zeros x x

-- x with its lowest set bit cleared
unfoldable pub cleared : ℕ → ℕ
cleared x = x - 2 ^ lowest_bit x

-- M with the row r in place of row x
unfoldable pub put : Matrix → ℕ → Row → Matrix
put M x r i j = elim (eqb i x) [ true ↦ r j | false ↦ M i j ]

-- One step on a state, where B is the second matrix. Bit 0 of x stands for the block's first column, so its lowest set bit stands for row
-- s + lowest_bit x of B. A table step for an x of one bit reads table row 0 as it is found.
unfoldable pub apply : Matrix → Step → State → State
apply B (table_step s x) st = record {
  table = put st.table x (λ j. combine 1 (st.table (cleared x) j) (B (s + lowest_bit x) j));
  product = st.product;
}
apply B (row_step i d x) st = record {
  table = st.table;
  product = put st.product i (λ j. combine d (st.product i j) (st.table x j));
}

-- the steps one after another
unfoldable pub run : Matrix → List Step → State → State
run B [] st = st
run B (p ∷ ps) st = run B ps (apply B p st)

-- what opening a job sets: zero in table and product
unfoldable pub opening : State
opening = record { table = λ x j. 0; product = λ i j. 0 }
