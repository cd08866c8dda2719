use Rattle.std.proofs.Common.{◌++◌, codes, ap, ◌∙◌}
use Rattle.std.specs.String.{string_bytes}
use Rattle.location_wire.specs.Texts.{hex_text}
use Rattle.plain_lists.proofs.Lemmas.Pushed.{when_pushed, three_pieces}
use Rattle.location_wire.proofs.text.push_account.Goals as goal

pub returns : goal.returns
returns c =
    when_pushed c.push_str-2.result _ _ _ _ c.push_str-2.ensures.bytes
    (ap (λ t. t ++ codes ")") (c.in_ok-push_hex.ensures ∙ ap (λ t. t ++ hex_text c.args.id.now) c.in_ok-push_str.ensures.bytes)
    ∙ three_pieces (string_bytes c.args.text.now) (codes "AccountId32(") (hex_text c.args.id.now) (codes ")"))
