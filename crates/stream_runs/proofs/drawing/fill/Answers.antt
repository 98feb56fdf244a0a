use Rattle.std.proofs.Common.{◌≡◌, ◌∙◌, ◌+◌, Bool, List, pos, w64, to_z, of_z, sym, subst, ap, arith, rules}
use Rattle.std.proofs.lemmas.Int.{to_z-of_z}
use Rattle.gcl_core.specs.declared.answers.Answer.{Answer}
use Rattle.sampler_run.specs.Held.{Held, IsRestOf, set_back}
use Rattle.zar_io.specs.StreamBits.{stream_bits}
use Rattle.stream_runs.specs.Ends.{end_of, value_of}
use Rattle.stream_runs.proofs.Slots.{written_more}
use Rattle.stream_runs.proofs.drawing.fill.Goals as goal

pub answer_on_stream-answer-requires-clause-home : goal.answer_on_stream-answer-requires-clause-home
answer_on_stream-answer-requires-clause-home c = record { stands = c.requires.home.stands; same = c.loop-k.invariant.1 ∙ c.requires.home.same }

-- the answer on this stream is that of the run
answered : (c : goal.After-end_of) (run : List Bool → Answer) → IsRestOf (set_back c.args.state.now) run
    → c.answer_on_stream-answer.result ≡ run (stream_bits c.args.streams.seed (c.args.streams.first + c.loop-k.k) c.args.streams.budget)
answered c run is = c.answer_on_stream-answer.ensures.answer run (subst (λ (h : Held). IsRestOf h run) (sym c.loop-k.invariant.1) is)

pub loop-k-preserved : goal.loop-k-preserved
loop-k-preserved c =
    let i = c.loop-k.invariant in
    let seed = c.args.streams.seed in
    let first = c.args.streams.first in
    let budget = c.args.streams.budget in
    let kept : to_z w64 (of_z w64 c.value_of.result) ≡ c.value_of.result = grind (arith, to_z-of_z) in (
      search rules,
      c.answer_on_stream-answer.ensures.same_start ∙ i.1,
      λ run is. written_more (λ j. value_of (run (stream_bits seed (first + j) budget))) c.loop-k.values (pos 0) c.loop-k.k (to_z w64 (of_z w64 c.value_of.result))
          (search rules) (kept ∙ c.value_of.ensures ∙ ap value_of (answered c run is)) (i.2 run is),
      λ run is. written_more (λ j. end_of (run (stream_bits seed (first + j) budget))) c.loop-k.ends 0 c.loop-k.k c.end_of.result
          (search rules) (c.end_of.ensures ∙ ap end_of (answered c run is)) (i.3 run is),
    )

pub returns : goal.returns
returns c = λ run is.
    let i = c.loop-k.invariant in
    record {
      alike = i.0;
      values_are = λ k below. i.2 run is k (search rules);
      ends_are = λ k below. i.3 run is k (search rules);
    }
