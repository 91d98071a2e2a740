-- `build_entries::Recordings::put_rows` meets its contract. Assumes nothing.
use Rattle.std.proofs.Common.{◌≡◌, List, ◌++◌, ℕ, ◌+◌, ◌*◌, ◌-◌, ◌≤◌, ◌<◌, length, take, get_or, arith, refl, sym, ap, ◌∙◌}
use native.Mathlib.Nat.{mul-le-mul_left, le_trans}
use Rattle.lists.specs.Lists.{sum}
use Rattle.maps.proofs.Entries.{scale-le}
use Rattle.model.specs.Words.{head_width, row_width}
use Rattle.build_ranges.specs.Codes.{Fit}
use Rattle.build_ranges.proofs.Ranks.{sum-none, sum_more, sum-take}
use Rattle.build_entries.specs.Laid.{row_for}
use Rattle.build_ranges.proofs.Props.{fitting}
use Rattle.build_entries.proofs.Prefix.{rows_none, rows_more}
use Rattle.build_entries.proofs.Rows.{row_is}
use Rattle.build_entries.proofs.Recordings.put_rows.Goals as goal

module _ (words : List ℕ) (v : ℕ) (lengths : List ℕ) (fit : Fit words v lengths) (i start : ℕ) (l : i < length lengths) (at : start ≡ sum (take i lengths)) where
  next : sum (take (i + 1) lengths) ≡ start + get_or lengths i 0
  next = sum_more lengths i l ∙ ap (λ n. n + get_or lengths i 0) (sym at)

  in_words : v * (start + get_or lengths i 0) ≤ length words
  in_words = rw next at (le_trans (mul-le-mul_left v (sum-take lengths (i + 1))) fit.whole)

pub loop-i-init : goal.loop-i-init
loop-i-init c =
    let a = c.args in
    (sym sum-none, rows_none (λ i. row_for a.self.arrivals.hashes.now a.self.arrivals.width (sum (take i a.self.arrivals.lengths.now)) (get_or a.self.arrivals.lengths.now i 0) (get_or a.self.rates.now i 0) (get_or a.self.sets.now i 0)) a.refs.now)

pub row-requires : goal.row-requires
row-requires c =
    (c.loop-i-test.true, in_words c.args.self.arrivals.hashes.now (c.args.self.arrivals.width - 1) c.args.self.arrivals.lengths.now (fitting c.args.self.arrivals.fit) c.loop-i.i c.loop-i.start c.loop-i-test.true c.loop-i.invariant.0)

pub overflow_add-start : goal.overflow_add-start
overflow_add-start c =
    let a = c.args in
    let l = c.loop-i in
    omega (arith, in_words a.self.arrivals.hashes.now (a.self.arrivals.width - 1) a.self.arrivals.lengths.now (fitting c.args.self.arrivals.fit) l.i l.start c.loop-i-test.true l.invariant.0, scale-le (a.self.arrivals.width - 1) (l.start + get_or a.self.arrivals.lengths.now l.i 0) (fitting c.args.self.arrivals.fit).some)

pub loop-i-preserved : goal.loop-i-preserved
loop-i-preserved c =
    let a = c.args in
    let l = c.loop-i in
    let p = c.row in
    let row : ℕ → List ℕ = λ i. row_for a.self.arrivals.hashes.now a.self.arrivals.width (sum (take i a.self.arrivals.lengths.now)) (get_or a.self.arrivals.lengths.now i 0) (get_or a.self.rates.now i 0) (get_or a.self.sets.now i 0) in
    let same = row_is a.self.arrivals.hashes.now a.self.arrivals.width (sum (take l.i a.self.arrivals.lengths.now)) (get_or a.self.arrivals.lengths.now l.i 0) (get_or a.self.rates.now l.i 0) (get_or a.self.sets.now l.i 0)
    l.start (get_or a.self.arrivals.lengths.now l.i 0) p.result.rate p.result.rmax p.result.set p.ensures.0 p.ensures.1 p.ensures.2 l.invariant.0 refl in (
      sym (next a.self.arrivals.hashes.now (a.self.arrivals.width - 1) a.self.arrivals.lengths.now (fitting c.args.self.arrivals.fit) l.i l.start c.loop-i-test.true l.invariant.0),
      rows_more row a.refs.now l.refs c.lay_row.new.refs l.i l.invariant.1 (c.lay_row.ensures ∙ ap (λ (m : List ℕ). take (head_width + row_width * l.i) l.refs ++ m) same),
    )
