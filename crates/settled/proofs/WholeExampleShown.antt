-- Inputs of the program whose output is computed: words through the search, the rest through the text forms.
--   running                             what such an example opens
--   whole_example, order_one_is_wrong   document 01's whole example, and Req 01's case at order 1
-- Assumes nothing.
use mathlib.Core.Path.{refl}
use Prim.Native.Nat.{ℕ}
use native.Mathlib.Decide.{ℕ_discrete}
use Rattle.field.specs.Below.{last_of, total}
use Rattle.field.specs.Field.{◌⊕◌, xor_sum, bit_times, modulus, reduction, length_of, times_alpha, shift_add, times, alpha_to, inverse_of}
use Rattle.codes.specs.Codeword.{bit_of, word_of}
use Rattle.codes.specs.Code.{entry_of, dimension_of}
use Rattle.codes.specs.Lagrange.{unless, others, quotients, cell, lagrange}
use Rattle.soft.specs.Value.{soft_at, hard, reliability}
use Rattle.soft.specs.Order.{before, rank_of}
use Rattle.soft.specs.Distance.{differs, soft_distance, flips_of}
use Rattle.search.specs.Best.{stays, better}
use Rattle.search.specs.Search.{best_over, symbol, binary, completed, searched}
use Rattle.search.specs.Positions.{position_at, listed, positions, search_over}
use Rattle.words.specs.Packing.{bytes_of, packed, written}
use Rattle.frame.specs.Refusal.{header_refusal, decode_refusal}
use Rattle.decode.specs.Called.{result_of}
use Rattle.items.specs.Line.{items, is_number, number_of}
use Rattle.input_lines.specs.Header.{header_of}
use Rattle.input_lines.specs.WordLine.{is_value, value_of, values_of}
use Rattle.output_lines.specs.Output.{decimal_in, decimal, hex_of, refused_line, ok_line}
use Rattle.lines.specs.Answer.{header_says, header_answer, header_goes_on, result_line, word_answer}
use Rattle.lines.specs.Program.{lines_of, word_answers, answers_to, program_output}
use Rattle.settled.specs.WholeExample.{WholeExample}
use Rattle.settled.specs.OrderExample.{OrderOneIsWrong}

unfoldable running : ℕ
unfolding
    last_of total ◌⊕◌ xor_sum bit_times modulus reduction length_of times_alpha shift_add times alpha_to inverse_of ℕ_discrete
    bit_of word_of entry_of dimension_of unless others quotients cell lagrange
    soft_at hard reliability before rank_of differs soft_distance flips_of
    stays better best_over symbol binary completed searched position_at listed positions search_over
    bytes_of packed written decode_refusal result_of
    items is_number number_of header_of is_value value_of values_of decimal_in decimal hex_of refused_line ok_line
    header_refusal header_says header_answer header_goes_on result_line word_answer
    lines_of word_answers answers_to program_output
running = 0

pub whole_example : WholeExample
unfolding running
whole_example = refl

pub order_one_is_wrong : OrderOneIsWrong
unfolding running
order_one_is_wrong = refl
