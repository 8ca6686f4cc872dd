use Rattle.std.proofs.Common.{length}
use Rattle.wasm_binary.proofs.decoder.+read_magic.Given as goal

abbrev pub decreases-read_magic : goal.decreases-read_magic
decreases-read_magic l = length l.magic.now
