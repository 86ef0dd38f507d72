-- No buffer of the program is larger than one may be: computed.
use mathlib.Core.Path.{◌≡◌, refl}
use mathlib.Core.Bool.{true}
use Rattle.limits.specs.Limits.{most_buffer}
use Rattle.limits.specs.Buffers.{buffers, none_over}

pub no_larger_buffer : none_over most_buffer buffers ≡ true
no_larger_buffer = refl
