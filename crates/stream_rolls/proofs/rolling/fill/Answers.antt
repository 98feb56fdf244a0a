use Rattle.std.proofs.Common.{◌∙◌, ℕ, ◌+◌, ap, rules}
use Rattle.weighted_roll.specs.WeightedRoll.{weighted_roll}
use Rattle.zar_io.specs.StreamBits.{stream_bits}
use Rattle.stream_runs.proofs.Slots.{written_more}
use Rattle.stream_rolls.specs.Ends.{end_of, label_of}
use Rattle.stream_rolls.proofs.rolling.fill.Goals as goal

pub loop-k-preserved : goal.loop-k-preserved
loop-k-preserved c =
    let i = c.loop-k.invariant in
    let rolled = λ (j : ℕ). weighted_roll c.args.loaded.now c.args.flips (stream_bits c.args.streams.seed (c.args.streams.first + j) c.args.streams.budget) in (
      search rules,
      c.roll_on_stream-rolled.ensures.same_room ∙ i.1,
      written_more (λ j. label_of (rolled j)) c.loop-k.labels 0 c.loop-k.k c.label_of.result (search rules) (c.label_of.ensures ∙ ap label_of c.roll_on_stream-rolled.ensures.answer) i.2,
      written_more (λ j. end_of (rolled j)) c.loop-k.ends 0 c.loop-k.k c.end_of.result (search rules) (c.end_of.ensures ∙ ap end_of c.roll_on_stream-rolled.ensures.answer) i.3,
    )

pub returns : goal.returns
returns c =
    let i = c.loop-k.invariant in
    record {
      alike = i.0;
      labels_are = λ k below. i.2 k (search rules);
      ends_are = λ k below. i.3 k (search rules);
    }
