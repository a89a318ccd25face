use Rattle.string_io.proofs.Asks.{block_asks}
use Rattle.string_io.proofs.Exactly.{asked_exactly}
use Rattle.string_io.proofs.Whole.{block_places, length-numbers_in}
use Rattle.string_io.proofs.laws.blocks_are_elements.Goals as goal

pub returns : goal.returns
returns c = record {
  law = record {
    exactly = asked_exactly;
    elements = λ i v b bytes full asks. record {
      asks = block_asks i v b _ full (length-numbers_in b.size b.count bytes) asks;
      places = block_places i v b bytes full asks;
    };
  };
}
