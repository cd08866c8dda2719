-- What a move gives that isn't refused.
abbrev pub Nothing : Type 0
Nothing = Unit {0}
