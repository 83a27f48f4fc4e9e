-- Theorem: the known sums of document 01, by computation. Assumes nothing.
use Rattle.cells.specs.Digit.{combine}
use mathlib.Core.Path.{refl}
use lib.Count.{count_trailing_zeros}
use Rattle.steps.specs.Matrix.{schoolbook}
use Rattle.steps.specs.Step.{lowest_bit, cleared, put, apply, run, opening}
use Rattle.cells.specs.Bit.{word_of}
use Rattle.cells.specs.Counts.{sum, is, bits_of}
use Rattle.steps.specs.StepList.{unless0, many, each, table_steps, row_steps, block_steps, blocks, block_width, steps}
use Rattle.steps.specs.Count.{quote, total}
use Rattle.steps.specs.Turn.{after}
use Rattle.steps.specs.KnownSums.{KnownSums, written, listed, shown, sample_a, sample_b, sample_after}

pub known_sums : KnownSums
unfolding written listed shown sample_a sample_b sample_after after sum schoolbook lowest_bit cleared count_trailing_zeros put apply run opening is word_of bits_of unless0 many each table_steps row_steps block_steps blocks block_width steps quote total combine
known_sums = record {
  1+1 = refl;
  1+2 = refl;
  2+2 = refl;
  0-1 = refl;
  2-1 = refl;
  product = refl;
  totals = refl;
  product_after_4 = refl;
  product_after_5 = refl;
  finished_table = refl;
  quoted = refl;
  first_column = refl;
  last_column = refl;
  crossing = (refl, refl);
}
