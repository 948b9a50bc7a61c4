-- `decoding::body::decode` meets its contract.
-- Assumes nothing.
use Rattle.decoding.proofs.Items.{decoded_is}
use Rattle.decoding.proofs.body.decode.Goals as goal

pub returns : goal.returns
returns c =
    let x = c.args in
    decoded_is x.at x.kind c.narrow.result c.narrow-2.result c.narrow-3.result c.wide.result c.four.result x.l x.bytes.now
    c.narrow.ensures c.narrow-2.ensures c.narrow-3.ensures c.wide.ensures c.four.ensures.0
