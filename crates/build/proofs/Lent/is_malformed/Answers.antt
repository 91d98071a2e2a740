-- `build::Lent::is_malformed` meets its contract. Assumes nothing.
use Rattle.build.proofs.Tests.{is-uneven, unlike, unlike-sets, as-lengths}
use Rattle.build.proofs.Lent.is_malformed.Goals as goal
use Rattle.build.proofs.Lent.is_malformed.Goals.{then-self-v-ne0-via-then-self-v-ne0, then-self-v-ne0-via-else-self-v-ne0+then-self-many, then-self-v-ne0-via-else-self-v-ne0+else-self-many+then-self-many-2}

pub returns-then-self-v-ne0 : goal.returns-then-self-v-ne0
returns-then-self-v-ne0 c =
    let a = c.args in
    elim c.then-self-v-ne0.branch [
      | then-self-v-ne0-via-then-self-v-ne0 w ↦ is-uneven a.w a.self.hashes.now a.self.lengths.now a.self.rates.now a.self.sets.now w.if-self-v-ne0.true
      | then-self-v-ne0-via-else-self-v-ne0+then-self-many w ↦ unlike a.w a.self.hashes.now a.self.lengths.now a.self.rates.now a.self.sets.now w.if-self-many.true
      | then-self-v-ne0-via-else-self-v-ne0+else-self-many+then-self-many-2 w ↦ unlike-sets a.w a.self.hashes.now a.self.lengths.now a.self.rates.now a.self.sets.now w.if-self-many-2.true
    ]

pub returns : goal.returns
returns c =
    let a = c.args in
    as-lengths a.w a.self.hashes.now a.self.lengths.now a.self.rates.now a.self.sets.now c.if-self-v-ne0.false c.if-self-many.false c.if-self-many-2.false c.lengths_fit.result c.lengths_fit.ensures
