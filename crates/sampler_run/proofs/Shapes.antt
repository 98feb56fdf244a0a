-- Registers of the same shape, from one to another.
use Rattle.std.proofs.Common.{◌∙◌, refl}
use Rattle.sampler_run.specs.declared.machine.Registers.{Registers}
use Rattle.sampler_run.specs.inner.Shape.{SameShape}

pub own_shape : (m : Registers) → SameShape m m
own_shape m = record { turns = refl; vars = refl; stack = refl }

pub shape_join : (first then last : Registers) → SameShape first then → SameShape then last → SameShape first last
shape_join first then last a b = record { turns = b.turns ∙ a.turns; vars = b.vars ∙ a.vars; stack = b.stack ∙ a.stack }
