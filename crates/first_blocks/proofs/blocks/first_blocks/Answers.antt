use Rattle.std.proofs.Common.{◌≡◌, ◌<◌, ◌/◌, ◌%◌, refl, sym, ap, ap₂, ◌∙◌, slice_index, arith, add-one, rules}
use Rattle.rand_chacha.specs.Block.{add32, column_round, diagonal_round, double_rounds, block_word, initial_state}
use Rattle.rand_chacha.specs.Lanes.{lane_at}
use Rattle.first_blocks.proofs.Lanes.{lane_word, row_written}
use Rattle.first_blocks.proofs.blocks.first_blocks.Goals as goal

pub rounds-init : goal.rounds-init
unfolding double_rounds
rounds-init c = λ j lt. refl

pub rounds-preserved : goal.rounds-preserved
unfolding double_rounds
rounds-preserved c = λ j lt. rw add-one (c.double_round-x.ensures j lt ∙ ap (λ x. diagonal_round (column_round x)) (c.rounds.invariant j lt))

pub returns : goal.returns
unfolding block_word
returns c = λ j k lane word.
    let written : k < c.rows.k = omega arith in
    let done : c.rounds._done ≡ 10 = omega arith in
    let first = c.beginnings-first.ensures j lane ∙ ap (λ key. initial_state key 0 (slice_index c.args.streams.now j)) c.key_of.ensures in
    let block : k / 16 ≡ 0 = omega arith in
    let place : k % 16 ≡ k = omega arith in
    rw (block, place) (c.rows.invariant.1 j k lane written
    ∙ ap₂ add32
    (sym (lane_word c.rounds.x j k word) ∙ ap (λ x. slice_index x k) (c.rounds.invariant j lane ∙ ap₂ double_rounds done first))
    (sym (lane_word c.beginnings-first.result j k word) ∙ ap (λ x. slice_index x k) first))

pub rows-preserved : goal.rows-preserved
rows-preserved c = (
  search rules,
  λ j k lane lt.
      row_written c.rows.words c.sum.result c.rows.k j k (λ k. add32 (lane_at c.rounds.x k j) (lane_at c.beginnings-first.result k j)) (omega (arith, c.rows.invariant.0))
      (λ below. c.rows.invariant.1 j k lane below) (c.sum.ensures j lane) lt,
)
