-- `sheet_text::put_hex`: the measure is the number of digits. Assumes nothing.
use Rattle.sheet_text.proofs.+put_hex.Given as goal

abbrev pub decreases-put_hex : goal.decreases-put_hex
decreases-put_hex l = l.k
