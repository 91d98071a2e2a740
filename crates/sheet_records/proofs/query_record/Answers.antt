-- `sheet_records::query_record` meets its contract. Assumes nothing.
use Rattle.std.proofs.Common.{ap, ◌∙◌, get_or}
use Rattle.model.specs.Query.{Query}
use Rattle.model.specs.Calls.{query}
use Rattle.model.specs.Run.{run}
use Rattle.soundness.specs.Scan.{words}
use Rattle.query_rank.specs.Answers.{finding_answer}
use Rattle.wang_judge.specs.Scheme.{wang}
use Rattle.sheet_records.proofs.Steps.{stepped_by, same_asked, zeros-length, still-zeros}
use Rattle.lists.proofs.Entries.{rest_all}
use Rattle.sheet_records.proofs.query_record.Goals as goal

pub returns-clause-stepped : goal.returns-clause-stepped
returns-clause-stepped c =
    let a = c.args in
    let f = a.fields.now in
    let k = c.query-answer in
    let p = c.put_finding.ensures in
    let e = same_asked c.config_of-cfg.ensures c.f32_from_bits-rate.ensures (rest_all f 5) (zeros-length a.scratch.now c.requires.scratch_value) in
    stepped_by f (finding_answer k.result) (p.by_index (get_or f 0 0)) p.upper_bound
    (k.ensures.stopped_value ∙ ap (λ (q : Query wang). run wang (words a.refs.now a.postings.now a.stopped.now) (query q)) e)

pub returns-clause-scratch_after : goal.returns-clause-scratch_after
returns-clause-scratch_after c =
    c.query-answer.ensures.scratch_after ∙ still-zeros (finding_answer c.query-answer.result) c.args.scratch.now c.requires.scratch_value
