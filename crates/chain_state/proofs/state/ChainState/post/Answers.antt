use Rattle.std.proofs.Common.{refl, ap, ◌∙◌}
use Rattle.channel_parts.specs.Channels.{with_waiting}
use Rattle.versioned_xcm.specs.Reading.{message_of}
use Rattle.chain_queues.specs.Decoded.{program_read}
use Rattle.chain_queues.specs.Queues.{channels_of, leads_to}
use Rattle.trust_tables.specs.Trust.{listing}
use Rattle.network_steps.specs.Tests.{have_prices}
use Rattle.chain_state.specs.ListedFees.{are_fees_listed}
use Rattle.chain_state.proofs.Kept.{prices_kept, fees_kept}
use Rattle.chain_state.proofs.Lemmas.Facts.{are_payable}
use Rattle.chain_state.specs.Known.{prices_there, fees_there}
use Rattle.chain_state.proofs.state.ChainState.post.Goals as goal

pub invariant_of-self : goal.invariant_of-self
invariant_of-self c =
    let f = c.args.self.now in
    record {
      ledger_lists = f.ledger_lists;
      book_lists = f.book_lists;
      floors = f.floors;
      set_up = f.set_up;
      rates = f.rates;
      payable = are_payable _ _ (ap have_prices c.in-Ok.ensures.queued ∙ prices_kept (leads_to c.args.to) (with_waiting (program_read (message_of c.args.bytes.items)) c.args.cargo) (λ o. refl) (channels_of f.queues) ∙ (prices_there f)) (ap (are_fees_listed (listing f.settings.rows)) c.in-Ok.ensures.queued ∙ fees_kept (listing f.settings.rows) (leads_to c.args.to) (with_waiting (program_read (message_of c.args.bytes.items)) c.args.cargo) (λ o. refl) (channels_of f.queues) ∙ (fees_there f));
      fee_rows = f.fee_rows;
      slot_rows = f.slot_rows;
      spare_lines = f.spare_lines;
      room = f.room;
      checked = f.checked;
    }
