use mathlib.Core.Path.{◌≡◌, ap₂, ◌∙◌}
use Prim.Native.Nat.{ℕ, ◌+◌, ◌*◌, ◌/◌, ◌%◌, ◌^◌, ◌<◌}
use Rattle.buffers.specs.Buffer.{planes}
use Rattle.buffers.proofs.SizeLaws.{planes_room}
use Rattle.walk.specs.Factors.{matrix_of}
use Rattle.walk.proofs.LaneLaws.{many_counts, reads_one, reads_two, counted_one, counted_two, tables_small, few_blocks, starts, rows_small}
use Rattle.rows.specs.Wide.{of_one, of_two}
use Rattle.std.proofs.Common.{rules}
use borrow.Author.Tests.{eq-eqb}
use mathlib.Core.Bool.{Bool, true, false}
use native.Mathlib.Omega.{arith}
use Rattle.walk.proofs.factors.Packed.many_count.Goals as goal
use Rattle.walk.proofs.factors.Packed.many_count.Goals.{then-t-eq0, else-t-eq0}

-- no test is true and false
clash : (b : Bool) → b ≡ true → b ≡ false → ⊥
clash b t f = cc

pub overflow_mul-s : goal.overflow_mul-s
overflow_mul-s c =
    let a = c.args.self.now in
    omega (arith, a.few_columns, starts a.rows a.columns c.args.k c.args.b c.args.n a.words.now c.requires)

pub rows_many-requires-clause-callable : goal.rows_many-requires-clause-callable
rows_many-requires-clause-callable c =
    let a = c.args.self.now in
    λ i h lifetimes place told fits long whole sizes plane from lent. (reads_one a.rows a.columns c.args.k c.args.b c.args.n a.words.now c.requires i a.plane a.whole_plane h, omega arith)

pub rows_many-requires-clause-counted : goal.rows_many-requires-clause-counted
rows_many-requires-clause-counted c =
    let a = c.args.self.now in
    let near : (j : ℕ) → j < 64 → c.args.b * c.args.k + j < 64 * planes a.columns → c.args.b * c.args.k % 64 + j < 64 =
    elim c.if-t-eq0.branch [
      | then-t-eq0 w ↦ λ j l r. omega (arith, w.if-t-eq0.true)
      | else-t-eq0 w ↦
          let ends : c.args.b * c.args.k / 64 + 1 ≡ a.plane = search rules in
          λ j l r. omega (arith, ends, a.whole_plane)
    ] in
    λ i x h e.
    let read : x ≡ of_one a.words.now a.plane (i * (2 * a.plane) + c.args.b * c.args.k / 64) (c.args.b * c.args.k % 64) = search rules in
    let small : x.sign < 2 ^ 64 = search rules in
    counted_one a.rows a.columns c.args.k c.args.b c.args.n a.words.now c.requires i a.plane x a.whole_plane a.fit h small read near

pub overflow_add-result : goal.overflow_add-result
overflow_add-result c =
    let a = c.args.self.now in
    omega (arith, c.tables-made.ensures, c.rows_many.ensures, tables_small a.columns c.args.k c.args.b c.args.n c.requires.width (few_blocks a.rows a.columns c.args.k c.args.b c.args.n a.words.now c.requires), rows_small a.rows a.columns c.args.k c.args.b c.args.n a.words.now c.requires a.rows a.few_rows)

pub rows_many-requires-else-s-self-clause-callable : goal.rows_many-requires-else-s-self-clause-callable
rows_many-requires-else-s-self-clause-callable c =
    let a = c.args.self.now in
    let more : (0 < c.args.b * c.args.k % 64) × (c.args.b * c.args.k / 64 + 1 < planes a.columns) =
    elim c.if-t-eq0.branch [
      | then-t-eq0 w ↦ absurd (clash _ (w.value-is ∙ eq-eqb _ _ w.if-t-eq0.true) c.if-s-self.false)
      | else-t-eq0 w ↦
          let goes_on : ¬ (c.args.b * c.args.k / 64 + 1 ≡ a.plane) = search rules in
          (omega (arith, w.if-t-eq0.false), omega (arith, goes_on, a.whole_plane, starts a.rows a.columns c.args.k c.args.b c.args.n a.words.now c.requires, planes_room a.columns))
    ] in
    λ i h lifetimes place told fits long whole sizes plane from lent. (reads_two a.rows a.columns c.args.k c.args.b c.args.n a.words.now c.requires i a.plane a.whole_plane h more.1, more.0, omega arith)

pub rows_many-requires-else-s-self-clause-counted : goal.rows_many-requires-else-s-self-clause-counted
rows_many-requires-else-s-self-clause-counted c =
    let a = c.args.self.now in
    let more : (0 < c.args.b * c.args.k % 64) × (c.args.b * c.args.k / 64 + 1 < planes a.columns) =
    elim c.if-t-eq0.branch [
      | then-t-eq0 w ↦ absurd (clash _ (w.value-is ∙ eq-eqb _ _ w.if-t-eq0.true) c.if-s-self.false)
      | else-t-eq0 w ↦
          let goes_on : ¬ (c.args.b * c.args.k / 64 + 1 ≡ a.plane) = search rules in
          (omega (arith, w.if-t-eq0.false), omega (arith, goes_on, a.whole_plane, starts a.rows a.columns c.args.k c.args.b c.args.n a.words.now c.requires, planes_room a.columns))
    ] in
    λ i x h e.
    let read : x ≡ of_two a.words.now a.plane (i * (2 * a.plane) + c.args.b * c.args.k / 64) (c.args.b * c.args.k % 64) = search rules in
    let small : x.sign < 2 ^ 64 = search rules in
    counted_two a.rows a.columns c.args.k c.args.b c.args.n a.words.now c.requires i a.plane x a.whole_plane a.fit h small read more.0 more.1

pub overflow_add-result-else-s-self : goal.overflow_add-result-else-s-self
overflow_add-result-else-s-self c =
    let a = c.args.self.now in
    omega (arith, c.tables-made.ensures, c.rows_many-else-s-self.ensures, tables_small a.columns c.args.k c.args.b c.args.n c.requires.width (few_blocks a.rows a.columns c.args.k c.args.b c.args.n a.words.now c.requires), rows_small a.rows a.columns c.args.k c.args.b c.args.n a.words.now c.requires a.rows a.few_rows)

pub returns-then-s-self : goal.returns-then-s-self
returns-then-s-self c =
    let a = c.args.self.now in
    ap₂ ◌+◌ c.tables-made.ensures c.rows_many.ensures ∙ many_counts a.rows a.columns c.args.k c.args.b c.args.n (matrix_of a)

pub returns-else-s-self : goal.returns-else-s-self
returns-else-s-self c =
    let a = c.args.self.now in
    ap₂ ◌+◌ c.tables-made.ensures c.rows_many-else-s-self.ensures ∙ many_counts a.rows a.columns c.args.k c.args.b c.args.n (matrix_of a)
